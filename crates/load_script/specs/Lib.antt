pub mod Draws
pub mod Edits
pub mod Exchanges
pub mod Line
pub mod Loads
pub mod Names
pub mod Scripts
