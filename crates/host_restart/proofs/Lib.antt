pub mod Restarts
pub mod Hosts
