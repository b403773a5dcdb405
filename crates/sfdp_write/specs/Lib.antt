pub mod Table
pub mod Form
pub mod Written
pub mod Promises
