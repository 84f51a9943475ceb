-- Lemmas that other crates cite.
pub mod Durables
pub mod KeyLemmas
pub mod Worlds
pub mod Computing
pub mod Lookups
