pub mod Words
pub mod Types
pub mod Plan
pub mod Span
pub mod Later
pub mod Direct
pub mod Good
pub mod Marks
