mod Apart
mod PagedLaws
mod Seen
pub mod offered
