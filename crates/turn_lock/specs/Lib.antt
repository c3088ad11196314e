pub mod Turns
pub mod Tells
pub mod Kinds
pub mod Passes
pub mod Guards
