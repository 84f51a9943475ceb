mod Puts
mod Paths
mod Stages
mod Alike
pub mod offered
