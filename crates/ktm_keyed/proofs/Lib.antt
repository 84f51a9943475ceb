pub mod KeyedLemmas
pub mod Slots
