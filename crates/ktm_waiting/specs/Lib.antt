pub mod Table
pub mod Totals
pub mod Waiting
pub mod Work
