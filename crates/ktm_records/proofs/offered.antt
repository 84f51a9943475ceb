-- Lemmas that other crates cite.
pub mod Agreement
pub mod AgreementOfCourses
pub mod AgreementOfRollbacks
pub mod DurableLimits
pub mod LiveEnlistments
pub mod NoMore
pub mod OwnSizes
pub mod PlainFacts
pub mod UnitsPassed
pub mod Stages
