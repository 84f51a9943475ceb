-- Lemmas that other crates cite.
pub mod Files
pub mod Outcomes
