-- What memory keeps of the log's transactions, with what their parts have in them.
use Rattle.std.specs.Prelude.{◌≡◌, ℕ, List, [], map, Option, Some, None, if◌then◌else◌}
use Rattle.ktm_base.specs.declared.id.Id.{Id}
use Rattle.ktm_world.specs.declared.change.Change.{Change}
use Rattle.ktm_world.specs.declared.event.DonePart.{DonePart}
use Rattle.ktm_world.specs.declared.event.Part.{Part}
use Rattle.ktm_world.specs.declared.recorded.RecordedPart.{RecordedPart}
use Rattle.ktm_world.specs.declared.recorded.Superior.{Superior}
use Rattle.ktm_world.specs.Durable.{Recorded, is_decided}
use Rattle.ktm_world.specs.Enlistments.{Enlistment, enlistment_at}
use Rattle.ktm_world.specs.Files.{OwnChanges, own_changes}
use Rattle.ktm_world.specs.Keys.{Own, OwnSettings, own_settings}
use Rattle.ktm_world.specs.Lawful.{Agrees}
use Rattle.ktm_world.specs.Present.{Present}
use Rattle.txf_laws.specs.GoodState.{IsGoodState}
use Rattle.ktm_courses.specs.SoundCourse.{IsSoundCourse}
use Rattle.ktm_trace.specs.Traces.{Traced, TracedPart, traced, traces_of}

-- the resource manager of an enlistment, and none that there is where the enlistment is not there
abbrev pub manager_of : Option Enlistment → Id
manager_of None = record { boot = 0; number = 0 }
manager_of (Some e) = e.manager

-- the recovery information of an enlistment, and none where it is not there
abbrev pub information_of : Option Enlistment → List ℕ
information_of None = []
information_of (Some e) = e.information

-- the part of a participant, where the files and the keys have these
abbrev pub contents_of : List Enlistment → List Change → OwnSettings → DonePart → Part
contents_of es changes settings (DonePart.Enlistment id) = Part.Enlistment id (manager_of (enlistment_at es id)) (information_of (enlistment_at es id))
contents_of es changes settings DonePart.Files = Part.Changes changes
contents_of es changes settings DonePart.Keys = Part.Settings settings

-- the parts with what they have in them
abbrev pub expanded_parts : List Enlistment → List Change → OwnSettings → List TracedPart → List RecordedPart
expanded_parts es changes settings parts = map (λ p. record { is_done = p.is_done; part = contents_of es changes settings p.who }) parts

-- the superior with this Id, if there is one
abbrev pub superior_at : List Enlistment → Option Id → Option Superior
superior_at es None = None
superior_at es (Some id) = Some (record { enlistment = id; manager = manager_of (enlistment_at es id); information = information_of (enlistment_at es id) })

-- a transaction with what its parts have in them: none of changes and settings is left once it is decided
abbrev pub expanded : List Enlistment → List OwnChanges → List Own → Traced → Recorded
expanded es changes settings t = record {
  id = t.id;
  stage = t.stage;
  superior = superior_at es t.superior;
  parts = expanded_parts es (if is_decided t.stage then [] else own_changes changes t.id) (if is_decided t.stage then [] else own_settings settings t.id) t.parts;
}

-- where what is so now is sound, and what was recorded is good and agrees with it, memory has all that was recorded of transactions
abbrev pub ContentsLaw : Type 0
ContentsLaw = (x : Present) → IsSoundCourse x → IsGoodState x.recorded → Agrees x
    → map (expanded x.transactions.enlistments x.files.table.own x.keys.own) (traces_of x.recorded) ≡ x.recorded.transactions

-- what memory keeps is had again from what it is with the contents of the layers
abbrev pub KeptLaw : Type 0
KeptLaw = (es : List Enlistment) (changes : List OwnChanges) (settings : List Own) (ts : List Traced) → map traced (map (expanded es changes settings) ts) ≡ ts
