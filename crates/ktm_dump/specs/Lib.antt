pub mod Written
pub mod Text
pub mod Worked
pub mod Alike
