-- What the compaction of the machine's journal leaves, by its answer.
use Rattle.std.specs.Prelude.{◌≡◌, ℕ, List, Result, Ok, Err}
use Rattle.ktm_base.specs.declared.fault.Down.{Down}
use Rattle.ktm_journal.specs.Compact.{Compacts, IsCutOff, compacted}
use Rattle.ktm_log.specs.OnDisk.{OnDisk, on}
use Rattle.ktm_snapshot.specs.StateGrammar.{IsStateOf}
use Rattle.ktm_journal.specs.Image.{JournalState}
use Rattle.ktm_memory.specs.Memory.{MemoryState, present_of}

-- the journal of memory, on the same disk
abbrev pub journal_on : OnDisk MemoryState → OnDisk JournalState
journal_on m = on m.it.journal m.told m.status

-- a snapshot of what was recorded stands for all that the journal held, nothing else of memory has changed, and the pages of the disk are as they were
pub record IsSaved (old new : OnDisk MemoryState) : Type 0 where
  pub is : new.it ≡ record old.it { journal = compacted old.it.journal }
  pub snapshot : List ℕ
  pub state : IsStateOf (present_of old.it).recorded snapshot
  pub compacts : Compacts snapshot (journal_on old) (journal_on new)

-- the power went: the journal may hold what it held, or a snapshot of what was recorded, and the pages of the disk are as they were
pub record IsHalfSaved (old new : OnDisk MemoryState) : Type 0 where
  pub same : new.it ≡ old.it
  pub snapshot : List ℕ
  pub state : IsStateOf (present_of old.it).recorded snapshot
  pub cut : IsCutOff snapshot (journal_on old) (journal_on new)

-- what the compaction leaves
abbrev pub SavingLeaves : OnDisk MemoryState → OnDisk MemoryState → Result (Unit {0}) Down → Type 0
SavingLeaves old new (Ok done) = IsSaved old new
SavingLeaves old new (Err down) = IsHalfSaved old new
