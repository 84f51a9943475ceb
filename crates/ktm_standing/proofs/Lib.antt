mod Opened
mod Versions
mod CommitEvents
mod Outcomes
mod Worlds
mod FileForms
mod Counted
mod LeftPlain
mod FilesMade
mod CommitsMade
mod Relied
mod Starts
pub mod offered
