pub mod Coming
pub mod Bringing
pub mod Restoring
