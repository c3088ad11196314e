pub mod Read
pub mod Write
pub mod Back
pub mod Server
