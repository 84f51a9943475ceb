mod Rooms
mod Found
mod Routes
mod Takes
mod Alive
mod Courses
mod ManagerRoutes
mod EnlistmentRoutes
mod FileRoutes
mod NoneTakes
pub mod offered
mod Answering
mod OpenFiles
