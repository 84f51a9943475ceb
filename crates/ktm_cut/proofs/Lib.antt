pub mod Again
pub mod Choices
pub mod Drawn
pub mod Pieces
pub mod Ranges
pub mod Steps
pub mod Sure
