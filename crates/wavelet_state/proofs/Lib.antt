mod Drafts
mod Entries
pub mod Inverses
mod Names
mod Parts
mod Stretches
