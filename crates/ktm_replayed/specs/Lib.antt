pub mod Replayed
pub mod Settings
