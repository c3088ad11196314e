pub mod Cuts
pub mod Made
pub mod Parts
pub mod Same
