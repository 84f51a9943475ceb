pub mod Indexed
pub mod Names
pub mod Table
