-- Lemmas that other crates cite.
pub mod Beside
pub mod Keeping
pub mod Limits
pub mod Reserving
pub mod TableSteps
