pub mod Texts
pub mod Loops
pub mod Fields
pub mod Lists
pub mod Whole
pub mod Measures
pub mod Differ
pub mod Found
