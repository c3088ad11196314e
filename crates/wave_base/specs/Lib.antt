pub mod Faults
pub mod Grammar
pub mod Relations
pub mod Versions
