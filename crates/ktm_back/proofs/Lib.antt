mod Behind
mod Managers
pub mod Coming
mod OneOfKind
mod MoreOwned
mod Restorable
mod InDoubt
pub mod offered
