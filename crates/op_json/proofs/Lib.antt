pub mod Counts
pub mod Floats
pub mod Back
