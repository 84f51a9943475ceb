-- Lemmas that other crates cite.
pub mod Lying
pub mod LyingStates
pub mod Meanings
pub mod OnPages
pub mod Recording
pub mod Owners
pub mod Units
