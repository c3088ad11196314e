pub mod Chains
pub mod Compose
pub mod Laws
pub mod Weaves
pub mod Steps
