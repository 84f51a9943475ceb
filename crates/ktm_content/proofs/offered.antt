pub mod Bytes
pub mod Placing
pub mod PutBytes
pub mod Putting
