mod Stores
mod FileLaws
mod Texts
mod Transcripts
pub mod offered
