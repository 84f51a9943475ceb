-- What transactions changed and set, as it is recorded.
use Rattle.std.specs.Prelude.{List, [], map, if◌then◌else◌}
use Rattle.ktm_base.specs.declared.id.Id.{Id}
use Rattle.ktm_event.specs.Work.{changes_of}
use Rattle.ktm_world.specs.declared.change.Change.{Change}
use Rattle.ktm_world.specs.declared.recorded.RecordedPart.{RecordedPart}
use Rattle.ktm_world.specs.declared.recorded.Stage.{Stage}
use Rattle.ktm_world.specs.Durable.{Recorded, is_decided}
use Rattle.ktm_world.specs.Enlistments.{Enlistment}
use Rattle.ktm_world.specs.Files.{OwnChanges, own_changes}
use Rattle.ktm_world.specs.Keys.{Own, OwnSettings, own_settings}
use Rattle.ktm_snapshot.specs.Works.{placed_change}
use Rattle.ktm_trace.specs.Contents.{contents_of, expanded}
use Rattle.ktm_trace.specs.Traces.{Traced, TracedPart}
use Rattle.ktm_memory.specs.Shown.{shown}
use Rattle.ktm_memory.specs.Memory.{LayersNow, MemoryState, held}
use Rattle.ktm_saving.specs.declared.owned.Owned.{Owned}

-- the changes that are lent, as they are recorded
abbrev pub changes_owned : Owned → List Change
changes_owned o = changes_of o.names.now (shown o.files)

-- the same as a state has them
abbrev pub changes_placed : Owned → List Change
changes_placed o = map placed_change (changes_owned o)

-- the changes that a transaction at this stage has left to commit
abbrev pub changes_left : List OwnChanges → Id → Stage → List Change
changes_left own id stage = if is_decided stage then [] else own_changes own id

-- the settings that a transaction at this stage has left to commit
abbrev pub settings_left : List Own → Id → Stage → OwnSettings
settings_left own id stage = if is_decided stage then [] else own_settings own id

-- a part with what it has in it
abbrev pub part_with : List Enlistment → List Change → OwnSettings → TracedPart → RecordedPart
part_with es changes settings p = record { is_done = p.is_done; part = contents_of es changes settings p.who }

-- a transaction of the log with what its parts have in them, by what the layers hold
abbrev pub recorded_by : LayersNow → Traced → Recorded
recorded_by h t = expanded h.transactions.enlistments h.files.table.own h.keys.own t

-- the transactions of the log with what their parts have in them
abbrev pub recorded_in : MemoryState → Traced → Recorded
recorded_in m t = recorded_by (held m) t
