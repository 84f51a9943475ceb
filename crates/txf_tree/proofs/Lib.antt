mod Refilling
pub use Rattle.txf_nodes.proofs.Digits
pub use Rattle.txf_nodes.proofs.Listing
pub use Rattle.txf_nodes.proofs.Ordered
pub use Rattle.txf_nodes.proofs.Reaching
