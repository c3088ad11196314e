pub mod Counting
pub mod Stretching
