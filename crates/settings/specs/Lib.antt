pub mod Limits
pub mod Updated
pub mod Ranges
