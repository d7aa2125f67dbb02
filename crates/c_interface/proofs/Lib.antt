pub mod Backward
pub mod Openings
pub mod Rows
pub mod Shared
