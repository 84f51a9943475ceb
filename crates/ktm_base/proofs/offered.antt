-- Lemmas that other crates cite.
pub mod Digits
pub mod GuidLemmas
pub mod Images
pub mod ToldSteps
