pub mod Children
pub mod TreeState
pub mod UnitChanges
pub use Rattle.txf_nodes.specs.Places
pub use Rattle.txf_nodes.specs.declared.entry.Entry
