-- The transactions that are not over and the durable resource managers, as they stand in memory.
use Rattle.std.specs.Prelude.{◌≡◌, ℕ, true, false, List, [], ◌∷◌, ◌++◌, map, Option, None, Some}
use Rattle.ktm_base.specs.declared.id.Id.{Id}
use Rattle.ktm_world.specs.declared.change.Change.{Change}
use Rattle.ktm_world.specs.declared.event.DonePart.{DonePart}
use Rattle.ktm_world.specs.declared.event.Part.{Part}
use Rattle.ktm_world.specs.declared.recorded.Stage.{Stage}
use Rattle.ktm_world.specs.declared.recorded.Superior.{Superior}
use Rattle.ktm_world.specs.Durable.{Recorded, changes_of, emptied_part, is_before, parts_done, settings_of, while_not_done}
use Rattle.ktm_world.specs.Keys.{OwnSettings}
use Rattle.txf_laws.specs.Elements.{each_pair}

-- the transactions, and for how many more there is room
pub record TableState : Type 0 where
  pub transactions : List Recorded
  pub spare : ℕ

-- the managers, and for how many more there is room
pub record ManagersState : Type 0 where
  pub managers : List Id
  pub spare : ℕ

-- each transaction has a lower Id than those behind it
abbrev pub IsByRisingId : List Recorded → Type 0
IsByRisingId ts = each_pair (λ (t u : Recorded). is_before t.id u.id) ts ≡ true

-- a transaction with one part more, which is ready
abbrev pub with_one_part : Recorded → Part → Recorded
with_one_part t part = record t { parts = t.parts ++ record { is_done = false; part = part } ∷ [] }

-- a transaction that waits for this superior
abbrev pub held_for : Recorded → Superior → Recorded
held_for t superior = record t { stage = Stage.Held; superior = Some superior }

-- what a transaction changes, if there is one
abbrev pub changes_at : Option Recorded → List Change
changes_at None = []
changes_at (Some t) = changes_of t

-- what a transaction sets, if there is one
abbrev pub settings_at : Option Recorded → OwnSettings
settings_at None = []
settings_at (Some t) = settings_of t

-- the transactions once one of them, if there is one, is decided
abbrev pub decided_in : List Recorded → Option Recorded → List Recorded
decided_in ts None = ts
decided_in ts (Some t) = while_not_done ts (record t { stage = Stage.Decided; parts = map emptied_part t.parts })

-- the transactions once a participant of one of them, if there is one, is done
abbrev pub finished_in : List Recorded → DonePart → Option Recorded → List Recorded
finished_in ts done None = ts
finished_in ts done (Some t) = while_not_done ts (record t { parts = parts_done done t.parts })
