pub mod Cache
pub mod Pages
pub mod Slots
