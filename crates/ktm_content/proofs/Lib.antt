pub mod offered
pub mod States
