-- The memory that a machine keeps from one start to the next.
use Rattle.std.specs.Prelude.{ℕ, ◌≤◌}

-- how many bytes there is room for, in the list of what a command records, and in a snapshot
pub record BuffersState : Type 0 where
  pub log : ℕ
  pub snapshot : ℕ

-- neither buffer lost memory
pub record KeepBuffers (old new : BuffersState) : Type 0 where
  pub log : old.log ≤ new.log
  pub snapshot : old.snapshot ≤ new.snapshot
