mod Owning
mod OwningStates
mod Naming
mod Sharing
mod Present
mod Committing
mod Singles
mod GoodStates
pub mod offered
