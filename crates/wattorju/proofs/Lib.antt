pub mod Bytes
pub mod Asking
pub mod Labels
pub mod Restarting
