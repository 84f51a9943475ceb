-- Durable states, and what is recorded, with every byte of every content replaced by another one.
use Rattle.std.specs.Prelude.{◌≡◌, ℕ, List, map, Option, Some, None}
use Rattle.ktm_world.specs.declared.change.Change.{Change}
use Rattle.ktm_world.specs.declared.change.Change.TheVariants.{Put}
use Rattle.ktm_world.specs.declared.change.Contents.{Contents}
use Rattle.ktm_world.specs.declared.change.Contents.TheVariants.{Whole, Paged}
use Rattle.ktm_world.specs.declared.event.Event.{Event}
use Rattle.ktm_world.specs.declared.event.Event.TheVariants.{Plain, Ready, Single}
use Rattle.ktm_world.specs.declared.event.Part.{Part}
use Rattle.ktm_world.specs.declared.event.Part.TheVariants.{Changes}
use Rattle.ktm_world.specs.declared.recorded.Node.{Node}
use Rattle.ktm_world.specs.declared.recorded.RecordedPart.{RecordedPart}
use Rattle.ktm_world.specs.Durable.{Durable, Recorded}
use Rattle.ktm_world.specs.Logs.{Group}
use Rattle.ktm_world.specs.Tree.{Tree}

-- zero stays zero, with which gaps are filled
abbrev pub IsBlank : (ℕ → ℕ) → Type 0
IsBlank f = f 0 ≡ 0

-- ---- files

-- the content of a file; a directory has none
abbrev pub mapped_content : (ℕ → ℕ) → Option (List ℕ) → Option (List ℕ)
mapped_content f None = None
mapped_content f (Some bytes) = Some (map f bytes)

-- a file or a directory, which stays where it is
abbrev pub mapped_node : (ℕ → ℕ) → Node → Node
mapped_node f node = record node { content = mapped_content f node.content }

-- all files
abbrev pub mapped_tree : (ℕ → ℕ) → Tree → Tree
mapped_tree f tree = map (mapped_node f) tree

-- ---- changes

-- contents that are put, where they stand as bytes; pages stay
abbrev pub mapped_contents : (ℕ → ℕ) → Contents → Contents
mapped_contents f (Whole bytes) = Whole (map f bytes)
mapped_contents f (Paged len pages) = Paged len pages

-- a change, of which what is put has other bytes
abbrev pub mapped_change : (ℕ → ℕ) → Change → Change
mapped_change f (Put node offset contents) = Put node offset (mapped_contents f contents)
mapped_change f change = change

-- ---- what is recorded

-- a part, of which the files' has changes
abbrev pub mapped_part : (ℕ → ℕ) → Part → Part
mapped_part f (Changes changes) = Changes (map (mapped_change f) changes)
mapped_part f part = part

-- an event
abbrev pub mapped_event : (ℕ → ℕ) → Event → Event
mapped_event f (Plain change) = Plain (mapped_change f change)
mapped_event f (Ready transaction part) = Ready transaction (mapped_part f part)
mapped_event f (Single transaction part) = Single transaction (mapped_part f part)
mapped_event f event = event

-- the events of a group
abbrev pub mapped_group : (ℕ → ℕ) → Group → Group
mapped_group f group = map (mapped_event f) group

-- the groups of a log
abbrev pub mapped_log : (ℕ → ℕ) → List Group → List Group
mapped_log f log = map (mapped_group f) log

-- ---- the durable state

-- a part of a transaction that is not over
abbrev pub mapped_recorded_part : (ℕ → ℕ) → RecordedPart → RecordedPart
mapped_recorded_part f p = record p { part = mapped_part f p.part }

-- a transaction that is not over
abbrev pub mapped_recorded : (ℕ → ℕ) → Recorded → Recorded
mapped_recorded f t = record t { parts = map (mapped_recorded_part f) t.parts }

-- a durable state: keys, settings and recovery information stay as they are
abbrev pub mapped_durable : (ℕ → ℕ) → Durable → Durable
mapped_durable f s = record s { tree = mapped_tree f s.tree; transactions = map (mapped_recorded f) s.transactions }
