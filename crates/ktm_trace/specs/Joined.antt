-- Transactions and their parts as they stand in memory: the parts of all in one list, in the order in which they came. No public clause cites this module.
use Rattle.std.specs.Prelude.{◌≡◌, ℕ, ◌&&◌, ◌||◌, not, Bool, List, [], map, filter, Option, Some, None, if◌then◌else◌}
use Rattle.std.specs.List.{list_any}
use Rattle.ktm_base.specs.declared.id.Id.{Id}
use Rattle.ktm_world.specs.declared.event.DonePart.{DonePart}
use Rattle.ktm_world.specs.declared.recorded.RecordedPart.{RecordedPart}
use Rattle.ktm_world.specs.declared.recorded.Stage.{Stage}
use Rattle.ktm_world.specs.Durable.{is_of_enlistment}
use Rattle.ktm_world.specs.Transactions.{same_id}
use Rattle.ktm_trace.specs.declared.heads.Head.{Head}
use Rattle.ktm_trace.specs.declared.marks.Mark.{Mark}
use Rattle.ktm_trace.specs.Placed.{Rises, at_id}
use Rattle.ktm_trace.specs.Traces.{Traced, TracedPart, same_participant, who_of}

-- transactions without their parts, and for how many there is room
pub record HeadsState : Type 0 where
  pub heads : List Head
  pub capacity : ℕ

-- parts of all transactions, and for how many there is room
pub record MarksState : Type 0 where
  pub marks : List Mark
  pub capacity : ℕ

-- ---- one transaction

-- the Id of a transaction
abbrev pub head_id : Head → Id
head_id h = h.id

-- the transaction, or a new one that is ready where there is none
abbrev pub head_or_new : Id → Option Head → Head
head_or_new id None = record { id = id; stage = Stage.Ready; superior = None }
head_or_new id (Some h) = h

-- is it a part of this transaction
abbrev pub is_mark_of : Id → Mark → Bool
is_mark_of id m = same_id m.transaction id

-- the part without its transaction
abbrev pub marked_part : Mark → TracedPart
marked_part m = record { is_done = m.is_done; who = m.who }

-- the parts of a transaction
abbrev pub parts_at : List Mark → Id → List TracedPart
parts_at marks id = map marked_part (filter (is_mark_of id) marks)

-- the transaction with its parts
abbrev pub joined : List Mark → Head → Traced
joined marks h = record { id = h.id; stage = h.stage; superior = h.superior; parts = parts_at marks h.id }

-- transactions with their parts
abbrev pub joined_all : List Head → List Mark → List Traced
joined_all heads marks = map (joined marks) heads

-- they rise, and each part is one of them
pub record AreJoined (heads : List Head) (marks : List Mark) : Type 0 where
  pub rise : Rises head_id heads
  pub known : (id : Id) → at_id head_id heads id ≡ None → parts_at marks id ≡ []

-- ---- what is made of parts

-- a part of this transaction with what it recorded
abbrev pub mark_of : Id → RecordedPart → Mark
mark_of id p = record { transaction = id; is_done = p.is_done; who = who_of p.part }

-- the parts but those of this transaction
abbrev pub without_marks : List Mark → Id → List Mark
without_marks marks id = filter (λ m. not (is_mark_of id m)) marks

-- is it the part of this participant of the transaction
abbrev pub is_mark_by : Id → DonePart → Mark → Bool
is_mark_by id done m = is_mark_of id m && same_participant done m.who

-- an enlistment of the transaction that is done is taken out, and another part is marked
abbrev pub marks_done : List Mark → Id → DonePart → List Mark
marks_done marks id done = if is_of_enlistment done then filter (λ m. not (is_mark_by id done m)) marks else map (λ (m : Mark). record m { is_done = m.is_done || is_mark_by id done m }) marks

-- has the transaction a part that is not done
abbrev pub has_undone_mark : List Mark → Id → Bool
has_undone_mark marks id = list_any (λ m. is_mark_of id m && not m.is_done) marks
