pub mod Told
pub mod Status
pub mod Lengths
pub mod BlockDisk
