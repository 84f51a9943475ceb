pub mod Places
pub mod Counted
pub mod Counts
pub mod Hashes
pub mod Merges
pub mod Restoring
pub mod FreePlaces
