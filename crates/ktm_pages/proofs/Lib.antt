pub mod Agreement
pub mod Moves
pub mod Numbered
pub mod Places
pub mod Slots
pub mod Stack
