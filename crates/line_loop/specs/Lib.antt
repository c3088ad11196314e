pub mod Feeding
pub mod Lines
pub mod Output
pub mod Run
pub mod Steps
pub mod Told
pub mod Turns
