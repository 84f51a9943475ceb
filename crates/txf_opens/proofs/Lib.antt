pub mod Adding
pub mod Bytes
pub mod Ends
pub mod Found
pub mod Listed
pub mod Lists
pub mod Sharing
pub mod Writing
