pub mod Drafts
pub mod Inverses
pub mod Parts
pub mod Snapshots
pub mod Stretches
