pub mod Found
pub mod Filled
pub mod Types
pub mod Laws
