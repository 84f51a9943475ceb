mod GoodStates
mod MappedLaws
pub mod offered
