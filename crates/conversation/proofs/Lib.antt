pub mod Ends
pub mod Growing
pub mod Readings
pub mod Searching
pub mod Entering
pub mod Placing
pub mod Editing
pub mod Rooting
