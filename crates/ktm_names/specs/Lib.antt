pub mod Value
pub mod Reading
pub mod Places
pub mod Walking
pub mod Leading
