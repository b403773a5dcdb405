pub mod RawWrites
