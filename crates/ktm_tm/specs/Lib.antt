pub mod Courses
pub mod Listed
pub mod LiveCounts
pub mod Recovery
pub mod Steps
pub mod Table
pub mod Timeouts
pub mod TmState
