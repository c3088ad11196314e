pub mod Edits
pub mod Refused
pub mod Sources
pub mod Walks
