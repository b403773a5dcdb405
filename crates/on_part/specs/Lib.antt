pub mod OnPart
pub mod Chosen
pub mod Between
