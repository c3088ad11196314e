pub mod Answering
pub mod Cutting
pub mod Feeding
pub mod Serving
pub mod Slices
pub mod Telling
pub mod Whole
