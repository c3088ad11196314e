pub mod Room
pub mod Rebases
pub mod Sounds
pub mod Gathers
pub mod Advances
