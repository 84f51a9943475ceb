-- Lemmas that other crates cite.
pub mod Counts
pub mod Lasting
pub mod Lists
pub mod Ways
pub mod Superiors
pub mod Table
pub mod Ahead
pub mod Recorded
pub mod Staying
pub mod Fading
pub mod Outcomes
