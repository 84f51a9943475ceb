pub mod offered
