mod Ways
mod ChangedStates
mod DecidedEvents
mod GoodStates
mod Grammars
mod HeldEvents
mod ReadyEvents
mod StateEvents
pub mod offered
