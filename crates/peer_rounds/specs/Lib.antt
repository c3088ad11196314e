pub mod Pauses
pub mod Peers
pub mod Turns
pub mod Stands
pub mod Reached
