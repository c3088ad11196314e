pub mod Escapes
pub mod Numerals
pub mod Screen
