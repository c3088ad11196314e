pub mod Crowding
pub mod Keeping
pub mod Lightness
pub mod Undoing
mod Kept
