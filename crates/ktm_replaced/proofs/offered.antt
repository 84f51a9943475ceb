-- Lemmas that other crates cite.
pub mod Asked
pub mod Calls
pub mod Replacing
