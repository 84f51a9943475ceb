pub mod Replaced
pub mod InPlace
pub mod Laws
pub use Rattle.ktm_alike.proofs.offered.Outcomes
pub use Rattle.ktm_alike.specs.Alike
