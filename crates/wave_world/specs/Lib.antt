pub mod Square
pub mod Texts
pub mod Worlds
pub mod Converged
