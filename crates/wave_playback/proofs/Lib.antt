pub mod Stands
pub mod Backwards
