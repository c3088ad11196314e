pub mod Answers
pub mod Editing
pub mod Laws
pub mod Lines
pub mod Machine
pub mod Seats
pub mod Taking
pub mod Undoing
