-- Lemmas that other crates cite.
pub mod Durables
pub mod Files
pub mod Trees
