pub mod Recorded
pub mod OnPages
pub mod Moved
