-- Lemmas that other crates cite.
pub mod FinalForms
pub mod OthersMet
pub mod Places
