pub mod Normals
pub mod Back
pub mod Floats
pub mod Deltas
pub mod Counts
