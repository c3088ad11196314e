pub mod Rules
pub mod Sets
pub mod Codes
pub mod Texts
pub mod Lists
pub mod Walks
