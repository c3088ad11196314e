pub mod Counts
pub mod Kept
pub mod Made
pub mod Insertions
pub mod Ranges
pub mod Erasures
pub mod Changed
