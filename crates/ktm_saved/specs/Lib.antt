pub mod Saved
pub mod Reading
pub mod Tests
