pub mod Numbers
pub mod Finding
pub mod Filling
pub mod Parts
pub mod Ways
pub mod Steps
