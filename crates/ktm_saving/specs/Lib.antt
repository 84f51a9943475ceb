pub mod Writes
pub mod Spellable
pub mod Owned
pub mod Saved
