pub mod Reading
pub mod Spelling
pub mod Work
pub mod Kept
pub mod OnPages
