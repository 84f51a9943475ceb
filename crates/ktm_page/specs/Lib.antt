pub mod Row
pub mod Space
pub use Rattle.ktm_base.specs.Bytes
pub use Rattle.ktm_base.specs.declared.limits.TheConstants
