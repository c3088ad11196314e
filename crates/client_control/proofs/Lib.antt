pub mod Matches
pub mod Passing
pub mod Joinings
pub mod Pending
pub mod Receipts
pub mod Small
pub mod Kept
