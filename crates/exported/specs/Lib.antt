pub mod Exported
pub mod Exports
pub mod Settings
pub mod Plan
pub mod Demand3
