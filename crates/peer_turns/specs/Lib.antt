pub mod Calls
pub mod MemoryCalls
