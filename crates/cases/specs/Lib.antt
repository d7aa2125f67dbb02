pub mod Published
pub mod Table
