-- Lemmas that other crates cite.
pub mod Events
pub mod Pages
pub mod States
pub mod Turns
