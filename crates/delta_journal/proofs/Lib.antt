mod Files
mod Named
pub mod Once
mod Puts
mod Read
pub mod Stages
