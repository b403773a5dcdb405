pub mod Bytes
pub mod Rows
pub mod Places
pub mod Round
pub mod Reading
pub mod Laws
