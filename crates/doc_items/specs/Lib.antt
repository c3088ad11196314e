pub mod Limits
pub mod Maps
pub mod Changes
pub mod Balance
