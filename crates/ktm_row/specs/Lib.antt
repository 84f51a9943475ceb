pub mod Places
pub mod Laws
pub mod Lengths
pub mod Keeping
