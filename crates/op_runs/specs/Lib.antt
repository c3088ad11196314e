pub mod Ahead
pub mod Contents
pub mod Kept
pub mod Passages
pub mod Rooms
