pub mod Containers
pub mod Decisions
pub mod Loads
pub mod Passing
pub mod Records
pub mod Stores
pub mod Trails
