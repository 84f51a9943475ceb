mod EachLaws
pub mod offered
