-- The state of an image while its log is read, and the memory that is there for it. No public clause cites this module.
use Rattle.std.specs.Prelude.{◌≡◌, ℕ, ◌+◌, ◌*◌, Bool, true, false, length, nat_lt}
use Rattle.ktm_base.specs.declared.limits.TheConstants.{UNIT_BYTES}
use Rattle.ktm_world.specs.declared.change.Change.{Change}
use Rattle.ktm_world.specs.declared.change.Change.TheVariants.{Put, Cut}
use Rattle.ktm_world.specs.declared.event.Event.{Event}
use Rattle.ktm_world.specs.Changes.{bytes_in}
use Rattle.ktm_world.specs.Durable.{Durable, event_applies, fact_applies, fact_of}
use Rattle.txf_durable.specs.Numbers.{FileNumbersState}
use Rattle.txf_tree.specs.TreeState.{TreeState}

-- what the groups that were read come to, and the memory that is there
pub record ReplayedState : Type 0 where
  pub state : Durable
  -- the committed files as they stand in memory
  pub files : TreeState
  -- for how many more keys, and for how many more managers, there is room
  pub keys : ℕ
  pub managers : ℕ
  -- the files that a transaction writes, while its changes are tested
  pub written : FileNumbersState

-- would the change leave its file longer than so many units
abbrev pub passes_units : ℕ → Change → Bool
passes_units units (Put node offset contents) = nat_lt (units * UNIT_BYTES) (offset + length (bytes_in contents))
passes_units units (Cut node size pages) = nat_lt (units * UNIT_BYTES) size
passes_units units _ = false

-- whether an event is taken, before it is counted and the limits are tested: one that is refused does not apply, and one that is taken
-- has made of the state what it makes
pub record Takes (old : Durable) (event : Event) (taken : Bool) (new : Durable) : Type 0 where
  pub refused : taken ≡ false → event_applies old event ≡ false
  pub fact : taken ≡ true → fact_applies old event ≡ true
  pub after : taken ≡ true → new ≡ fact_of old event
