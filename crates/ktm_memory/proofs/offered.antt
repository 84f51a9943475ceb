-- Lemmas that other crates cite.
pub mod Decided
pub mod Following
pub mod Granted
pub mod Sent
pub mod Opening
pub mod Records
pub mod Settling
pub mod Standing
pub mod Takes
pub mod Tests
pub mod Shown
