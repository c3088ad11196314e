pub mod Agreement
mod Others
mod Passing
mod Stored
mod Turning
