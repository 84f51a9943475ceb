pub mod Found
pub mod KindLemmas
pub mod PartLemmas
pub mod RefusalLemmas
pub mod ReplyLemmas
pub mod StateLemmas
pub mod TextsLemmas
