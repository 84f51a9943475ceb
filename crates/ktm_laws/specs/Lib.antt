pub mod Notes
pub mod ReservedFiles
pub mod Running
pub use Rattle.ktm_limits.specs.LimitsKept
pub use Rattle.ktm_owned.proofs.offered.CoursesKept
pub use Rattle.ktm_owned.proofs.offered.EndedTransactions
pub use Rattle.ktm_owned.proofs.offered.OwnedAfterCourses
pub use Rattle.ktm_owned.proofs.offered.SeenFiles
