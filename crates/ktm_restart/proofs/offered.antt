-- Lemmas that other crates cite.
pub mod OneState
pub mod Journals
