pub mod Waits
pub mod Steps
pub mod Starts
