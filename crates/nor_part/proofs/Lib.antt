pub mod Replies
pub mod Contents
pub mod Commands
