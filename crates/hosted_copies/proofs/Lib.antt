pub mod Alike
pub mod Hosts
pub mod Showing
pub mod Walking
pub mod Short
