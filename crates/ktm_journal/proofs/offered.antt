-- Lemmas that other crates cite.
pub mod Halves
pub mod Rows
pub mod Pages
pub mod Images
pub mod GroupSizes
pub mod OneImage
