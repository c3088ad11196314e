pub mod Followers
pub mod Submitting
pub mod Receiving
pub mod Replicas
pub mod Laws
