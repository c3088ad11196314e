pub mod Spots
pub mod Spans
pub mod Meets
