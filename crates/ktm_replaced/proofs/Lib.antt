mod ReplacedLaws
pub mod offered
