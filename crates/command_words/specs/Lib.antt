pub mod Values
pub mod Peers
pub mod Commands
pub mod Shown
