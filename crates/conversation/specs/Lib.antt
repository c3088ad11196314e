pub mod Contents
pub mod Edits
pub mod Refusals
pub mod Search
pub mod Trees
