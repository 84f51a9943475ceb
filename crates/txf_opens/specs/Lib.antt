pub mod Acts
pub mod Indexed
pub mod Names
pub mod OpensState
pub mod Writers
