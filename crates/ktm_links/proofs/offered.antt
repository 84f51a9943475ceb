-- Lemmas that other crates cite.
pub mod Comparing
pub mod Entries
pub mod Indexes
pub mod Keys
pub mod Names
pub mod Numbers
