pub mod Counts
pub mod Enlistments
pub mod Groups
pub mod Places
pub mod Standing
pub mod Telling
