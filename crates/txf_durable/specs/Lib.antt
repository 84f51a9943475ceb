pub mod Numbers
pub mod Places
pub mod Recorded
pub mod State
pub mod Putting
pub mod Waiting
