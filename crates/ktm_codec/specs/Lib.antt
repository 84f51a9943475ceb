pub mod Steps
pub mod Hex
pub mod Number
pub mod Word
pub mod Quoted
pub mod Guid
pub mod Spans
