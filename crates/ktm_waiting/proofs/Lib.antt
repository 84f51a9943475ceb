mod Fitting
mod Made
mod OneOfKind
mod Others
mod Placing
mod Together
pub mod offered
