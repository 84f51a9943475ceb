mod LastVersions
mod LeftFiles
mod Notes
mod OneOutcome
mod Replies
mod ReservedFiles
mod Running
mod Sayings
mod SoundWorlds
mod Written
pub mod offered
