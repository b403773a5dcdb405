pub mod Dwords
