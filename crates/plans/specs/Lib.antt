pub mod Available
pub mod Planned
pub mod Cursors
