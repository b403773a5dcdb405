pub mod Dumps
pub mod Blocks
pub mod Steps
pub mod Host
