pub mod Laws
pub mod Fading
pub mod Outcomes
