pub mod Rising
pub mod Pairs
pub mod Single
pub mod Sets
pub mod Owned
pub mod Views
pub mod Boundaries
