pub mod Demands
pub mod Gives
pub mod Refusals
pub mod Replacing
pub mod Sources
pub mod Walks
pub mod Ways
