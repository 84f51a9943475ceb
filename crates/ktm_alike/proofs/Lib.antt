mod AlikeLaws
mod Calls
mod Commands
mod Courses
mod Presents
mod Restarts
pub mod offered
