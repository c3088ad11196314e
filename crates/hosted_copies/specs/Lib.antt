pub mod Domains
pub mod Shown
