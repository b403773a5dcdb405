pub mod Driver
pub mod ByValue
pub mod Demand3
