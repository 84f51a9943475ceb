-- Lemmas that other crates cite.
pub mod Applying
pub mod Events
pub mod Holds
pub mod Lists
pub mod Trees
