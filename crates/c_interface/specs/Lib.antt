pub mod Faults
pub mod Hashing
pub mod Opening
pub mod Permuting
pub mod Sealing
