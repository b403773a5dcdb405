pub mod Waits
pub mod Moves
