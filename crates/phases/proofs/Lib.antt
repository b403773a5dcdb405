pub mod Compare
pub mod Lengths
pub mod Makers
