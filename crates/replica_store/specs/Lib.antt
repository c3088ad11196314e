pub mod Copies
pub mod Settling
pub mod Absorbing
pub mod Laws
pub mod Worlds
pub mod Listings
