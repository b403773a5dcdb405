pub mod Ands
pub mod Answers
pub mod Running
pub mod Rules
pub mod Instances
