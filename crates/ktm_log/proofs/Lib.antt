pub mod Parts
pub mod Frames
pub mod GoodOrBad
pub mod Appends
pub mod Steps
pub mod Loading
pub mod Payloads
pub mod Reading
