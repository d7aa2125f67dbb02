mod Bits
mod Groups
pub mod SharedStrings
mod Sharing
mod StandingRow
pub mod Words
