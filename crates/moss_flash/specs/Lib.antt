pub mod Records
pub mod Calls
pub mod Plans
pub mod Asked
pub mod Tables
