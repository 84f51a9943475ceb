-- What the steps of a transaction make of what memory keeps.
use Rattle.std.specs.Prelude.{ℕ, ◌||◌, sum_by, Bool, List, [], ◌∷◌, Option, Some, None, is_some, if◌then◌else◌}
use Rattle.ktm_base.specs.declared.id.Id.{Id}
use Rattle.ktm_world.specs.declared.event.DonePart.{DonePart}
use Rattle.ktm_world.specs.declared.step.Fact.{Fact}
use Rattle.ktm_world.specs.declared.step.Step.{Step}
use Rattle.ktm_world.specs.Changes.{has_changes}
use Rattle.ktm_world.specs.Enlistments.{Enlistment, Manager, id_of as enlistment_id_of, is_durable_at}
use Rattle.ktm_world.specs.Phases.{has_settings}
use Rattle.ktm_world.specs.Steps.{Basis}
use Rattle.ktm_trace.specs.declared.recording.Recording.{Recording}
use Rattle.ktm_trace.specs.Placed.{at_id, without_id}
use Rattle.ktm_trace.specs.Traces.{Traced, id_of, once_decided, once_done, once_held, once_ready}

-- the enlistment that makes the call, where its resource manager is durable
abbrev pub durable_caller : List Manager → Option Enlistment → Option Id
durable_caller ms None = None
durable_caller ms (Some e) = if is_durable_at ms e.manager then Some e.id else None

-- what is read of what is recorded
abbrev pub recording_of : Basis → Recording
recording_of b = record {
  transaction = b.id;
  is_recorded = b.is_recorded;
  has_files = has_changes b.changes;
  has_keys = has_settings b.settings;
  caller = durable_caller b.managers b.caller;
  superior = enlistment_id_of b.superior;
}

-- how much room a fact takes: that of a transaction and of a part, where one may be ready or held by it
abbrev pub room_of : Fact → ℕ
room_of Fact.ReadyFiles = 1
room_of Fact.ReadyKeys = 1
room_of Fact.Ready = 1
room_of Fact.Held = 1
room_of _ = 0

-- how much a step takes
abbrev pub step_room : Step → ℕ
step_room (Step.Record fact) = room_of fact
step_room _ = 0

-- how much steps take
abbrev pub steps_room : List Step → ℕ
steps_room steps = sum_by step_room steps

-- ---- facts and steps, by what is read. No public clause cites what follows.

-- what is made of the transactions with this enlistment, if there is one
abbrev pub with_it : Option Id → List Traced → (Id → List Traced) → List Traced
with_it None ts f = ts
with_it (Some id) ts f = f id

-- what a fact makes of the transactions
abbrev pub noted : Recording → Fact → List Traced → List Traced
noted r Fact.ReadyFiles ts = if r.has_files then once_ready ts r.transaction DonePart.Files else ts
noted r Fact.ReadyKeys ts = if r.has_keys then once_ready ts r.transaction DonePart.Keys else ts
noted r Fact.Ready ts = with_it r.caller ts (λ id. once_ready ts r.transaction (DonePart.Enlistment id))
noted r Fact.Held ts = with_it r.superior ts (once_held ts r.transaction)
noted r Fact.Decide ts = if r.is_recorded then once_decided ts (at_id id_of ts r.transaction) else ts
noted r Fact.Undo ts = if r.is_recorded then without_id id_of ts r.transaction else ts
noted r Fact.DoneFiles ts = if r.has_files then once_done ts DonePart.Files (at_id id_of ts r.transaction) else ts
noted r Fact.DoneKeys ts = if r.has_keys then once_done ts DonePart.Keys (at_id id_of ts r.transaction) else ts
noted r Fact.Done ts = with_it r.caller ts (λ id. once_done ts (DonePart.Enlistment id) (at_id id_of ts r.transaction))
noted r Fact.SingleFiles ts = ts
noted r Fact.SingleKeys ts = ts

-- has the log a Ready or a Held once a fact is recorded
abbrev pub is_noted_by : Fact → Recording → Bool
is_noted_by Fact.ReadyFiles r = r.is_recorded || r.has_files
is_noted_by Fact.ReadyKeys r = r.is_recorded || r.has_keys
is_noted_by Fact.Ready r = is_some r.caller || r.is_recorded
is_noted_by Fact.Held r = is_some r.superior || r.is_recorded
is_noted_by _ r = r.is_recorded

-- what a step makes of the transactions
abbrev pub step_noted : Recording → Step → List Traced → List Traced
step_noted r (Step.Record fact) ts = noted r fact ts
step_noted r _ ts = ts

-- what is read behind a step
abbrev pub behind_step : Recording → Step → Recording
behind_step r (Step.Record fact) = record r { is_recorded = is_noted_by fact r }
behind_step r _ = r

-- what steps make of the transactions, one after another
abbrev pub steps_noted : Recording → List Step → List Traced → List Traced
steps_noted r [] ts = ts
steps_noted r (step ∷ steps) ts = steps_noted (behind_step r step) steps (step_noted r step ts)
