mod Buckets
mod Counting
mod FirstOf
pub mod offered
