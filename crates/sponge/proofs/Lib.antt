pub mod Absorbing
pub mod Advance
pub mod Squeezing
