mod Chosen
pub mod Moments
mod Pushed
mod Torn
