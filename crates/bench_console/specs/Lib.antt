pub mod Answers
pub mod Consoles
pub mod Runs
pub mod Screens
pub mod Words
