-- Lemmas that other crates cite.
pub mod Arrivals
pub mod Beginnings
pub mod Bindings
pub mod Calls
pub mod CommitsBegun
pub mod EnlistmentAnswers
pub mod EnlistmentOrder
pub mod FileSteps
pub mod HandlesAndTime
pub mod Moves
pub mod NewObjects
pub mod Outcomes
pub mod OutcomesMade
pub mod Endings
pub mod SoundRestarts
pub mod Views
