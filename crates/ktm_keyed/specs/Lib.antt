pub mod Keyed
pub mod Slot
