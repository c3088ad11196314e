pub mod Alike
pub mod Ascii
pub mod Names
pub mod Meanings
pub mod Normals
pub mod Deltas
