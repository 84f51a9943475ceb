pub mod Owed
pub mod Slots
