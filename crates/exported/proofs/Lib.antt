pub mod Same
pub mod Decoding
pub mod Widths
pub mod Exports
pub mod Settings
pub mod Plan
pub mod Demand3
