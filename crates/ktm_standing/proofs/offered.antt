-- Lemmas that other crates cite.
pub mod Found
pub mod Applied
pub mod Effects
pub mod Courses
pub mod Rows
pub mod NextNode
pub mod CommitReplies
pub mod Named
pub mod Distinct
pub mod Timeouts
pub mod Undone
pub mod Handles
pub mod Guids
pub mod Decided
