pub mod Script
pub mod Generator
pub mod Worked
