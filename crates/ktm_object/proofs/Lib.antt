pub mod Closing
pub mod Exits
pub mod Indexes
pub mod Labels
pub mod NameOrder
pub mod Owners
