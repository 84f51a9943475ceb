pub mod Saved
pub mod Making
