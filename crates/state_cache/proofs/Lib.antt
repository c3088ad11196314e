pub mod Runs
pub mod Caches
