pub mod Plain
pub mod Quiet
pub mod Placing
pub mod Moving
pub mod Gathering
pub mod Telling
pub mod Turning
pub mod Holding
pub mod Seating
pub mod Delivering
pub mod Trying
pub mod Meaning
pub mod Ordering
pub mod Searching
mod Serving
mod Changing
mod Running
