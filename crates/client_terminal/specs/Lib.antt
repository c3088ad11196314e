pub mod Runs
pub mod Inputs
pub mod Going
pub mod Moods
pub mod Pumping
pub mod Whole
