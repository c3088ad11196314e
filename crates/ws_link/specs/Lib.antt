pub mod Costs
pub mod Outboxes
