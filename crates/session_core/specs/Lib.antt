pub mod Rules
pub mod Access
pub mod Answers
pub mod Deliveries
pub mod Current
pub mod News
