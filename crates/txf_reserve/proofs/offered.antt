-- Lemmas that other crates cite.
pub mod Meeting
pub mod SomeOther
