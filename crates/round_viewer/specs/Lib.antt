pub mod Lines
pub mod Readers
pub mod Requests
pub mod Views
