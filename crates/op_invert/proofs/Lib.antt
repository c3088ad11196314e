mod Calls
mod Inserted
mod Reading
mod Steps
pub mod Lengths
pub mod Turning
pub mod Undoing
