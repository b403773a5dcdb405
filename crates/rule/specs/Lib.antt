pub mod Rule
pub mod Kept
