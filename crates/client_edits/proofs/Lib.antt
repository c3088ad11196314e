pub mod Building
pub mod Talking
