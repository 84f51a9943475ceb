pub mod Readers
pub mod WordLemmas
pub mod FormLemmas
pub mod PartLemmas
pub mod CommandLemmas
pub mod LineLemmas
