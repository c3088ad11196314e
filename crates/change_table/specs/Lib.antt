pub mod Tables
pub mod Keys
pub mod Otherwise
pub mod Turns
pub mod Joints
