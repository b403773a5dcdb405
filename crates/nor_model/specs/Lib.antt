pub mod Device
pub mod Fits
pub mod Replay
pub mod Runs
pub mod Demand3
