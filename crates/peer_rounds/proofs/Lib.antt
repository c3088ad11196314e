mod Rooms
mod Putting
pub mod Standing
pub mod Joining
pub mod Counting
pub mod Returns
