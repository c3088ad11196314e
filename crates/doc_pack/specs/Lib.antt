pub mod Characters
pub mod Packed
