mod Lines
mod Reach
