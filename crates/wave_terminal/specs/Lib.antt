pub mod Commands
pub mod Machines
pub mod Play
pub mod Runs
