pub mod Boxes
pub mod Ciphering
pub mod Keys
pub mod Nonces
pub mod Openings
pub mod Sealings
