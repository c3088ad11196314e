pub mod Access
pub mod Current
pub mod Pushing
pub mod Settling
pub mod Gathering
pub mod Large
pub mod Named
