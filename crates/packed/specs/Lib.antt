pub mod Typed
pub mod Numbers
pub mod Phases
pub mod Layout
pub mod Promises
