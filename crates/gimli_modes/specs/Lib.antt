pub mod Published
pub mod Standard
