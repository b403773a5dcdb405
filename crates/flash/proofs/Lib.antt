pub mod Accepted
pub mod Phases
pub mod Ways
