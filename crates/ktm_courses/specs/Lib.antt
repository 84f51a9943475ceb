pub mod NamedObjects
pub mod Outcomes
pub mod SoundCourse
pub mod SoundCourses
pub use Rattle.ktm_steps.proofs.offered.Lists
pub use Rattle.ktm_steps.proofs.offered.Staying
pub use Rattle.ktm_steps.proofs.offered.Ways
