pub mod Splitting
pub mod Simulating
pub mod Rooms
pub mod Agreeing
pub mod Reaching
pub mod Worked
