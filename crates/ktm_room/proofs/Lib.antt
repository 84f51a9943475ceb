mod CommandSizes
mod FileCallSizes
mod FrameLaws
mod GivenBytes
mod OwnedSizes
mod RestartSizes
mod StateSizes
mod TickSizes
mod TransactionSizes
mod UndoSizes
pub mod offered
