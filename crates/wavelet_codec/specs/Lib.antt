pub mod Spelling
pub mod Same
pub mod Reading
