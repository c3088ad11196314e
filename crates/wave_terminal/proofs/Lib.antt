pub mod Feeding
pub mod Obeying
