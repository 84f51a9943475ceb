mod Blocks
mod Found
mod InOrder
mod Linked
mod Segments
pub mod offered
