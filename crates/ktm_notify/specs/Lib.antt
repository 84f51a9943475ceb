pub mod Linked
pub mod Queues
