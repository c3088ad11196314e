pub mod Lengths
pub mod Frames
pub mod Texts
pub mod Floats
pub mod Depths
pub mod Back
