pub mod Steps
pub mod Served
pub mod Jobs
pub mod Texts
pub mod Clients
pub mod Going
