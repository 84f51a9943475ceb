pub mod PartLemmas
pub mod PlaceLemmas
pub mod PathLemmas
pub mod WalkLemmas
pub mod LeadLemmas
