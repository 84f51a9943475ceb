-- Lemmas that other crates cite.
pub mod OwnEvents
pub mod Rows
