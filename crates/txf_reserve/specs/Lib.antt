pub mod Acts
pub mod Checks
pub mod HeldPairs
pub mod Parts
pub mod ReserveKeys
pub mod ReserveState
