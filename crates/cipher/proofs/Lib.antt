pub mod Buffers
pub mod Ciphertexts
pub mod Counts
pub mod Messages
pub mod Records
pub mod Steady
pub mod Tags
pub mod Xor
