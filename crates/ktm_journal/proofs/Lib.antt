mod Known
mod Laying
mod Snapshots
mod Formats
mod Headers
mod Opened
mod Recorded
mod Compacting
pub mod offered
