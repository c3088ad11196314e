pub mod Operations
pub mod Reasons
pub mod Verdicts
pub mod Deltas
pub mod Good
