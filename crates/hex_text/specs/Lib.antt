pub mod Hex
pub mod Readers
