pub mod Through
pub mod Keeping
pub mod Instances
