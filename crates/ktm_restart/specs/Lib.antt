pub mod Logs
pub mod Bad
pub mod Payloads
pub mod Reading
pub mod Loads
pub mod Starts
