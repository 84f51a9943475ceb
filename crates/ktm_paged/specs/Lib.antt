pub mod Meaning
pub mod Paged
pub mod InBytes
pub mod Recorded
pub mod Laws
