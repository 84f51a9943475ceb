-- Lemmas that other crates cite.
pub mod LogCounts
pub mod PossibleLogs
pub mod Starts
