pub mod OverBytes
