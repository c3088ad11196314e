pub mod Commands
pub mod Inboxes
pub mod Indexing
pub mod Machine
pub mod Printed
