mod Applying
mod Changing
mod Counting
pub mod Digits
mod Filters
mod InPlace
pub mod Listing
mod Naming
mod Numbering
pub mod Ordered
pub mod Reaching
mod Renaming
mod Rising
pub mod Trees
mod Upward
mod Zeros
