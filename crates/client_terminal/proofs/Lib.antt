mod Short
mod Stepping
mod Reading
mod Feeding
mod Ending
