pub mod Stops
pub mod Sends
pub mod Takes
pub mod Asking
pub mod Steps
pub mod Dials
pub mod Called
