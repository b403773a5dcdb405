pub mod Times
pub mod Jesd216
pub mod Chosen
