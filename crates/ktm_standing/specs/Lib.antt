pub mod Standing
pub mod Effects
pub mod Courses
pub mod Files
pub mod Laws
