pub mod Responds
