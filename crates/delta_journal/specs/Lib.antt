pub mod File
pub mod Journal
pub mod Name
pub mod Shape
pub mod Stage
pub mod Stored
