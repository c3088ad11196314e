pub mod Crossing
pub mod Transform
pub mod Square
pub mod Walks
pub mod Taken
pub mod Touches
pub mod Steps
pub mod Results
