-- How the slots stand for the queues: a queue is what is sent to its manager, in the order in which all was sent. No public clause cites this module.
use Rattle.std.specs.Prelude.{◌≡◌, ℕ, ◌==◌, ◌<◌, suc, length, List, [], ◌∷◌, Option, Some, None, if◌then◌else◌}
use Rattle.std.specs.List.{AllByRecursion}
use Rattle.ktm_links.specs.declared.list.Key.{Key}
use Rattle.ktm_links.specs.Items.{Item, item, same_key}
use Rattle.ktm_links.specs.Indexed.{AreDistinct}
use Rattle.ktm_notify.specs.declared.note.Note.{Note}
use Rattle.ktm_notify.specs.declared.queues.QueueEnds.{QueueEnds}
use Rattle.ktm_notify.specs.declared.queues.Slot.{Slot}

-- what waits for a manager
abbrev pub notes_of : List (Item Slot) → ℕ → List Note
notes_of [] manager = []
notes_of (x ∷ xs) manager = if x.value.manager == manager then x.value.note ∷ notes_of xs manager else notes_of xs manager

-- the key of the first that waits for a manager
abbrev pub first_of : List (Item Slot) → ℕ → Option Key
first_of [] manager = None
first_of (x ∷ xs) manager = if x.value.manager == manager then Some x.key else first_of xs manager

-- the key, or else this one
abbrev pub or_key : Option Key → Option Key → Option Key
or_key None other = other
or_key (Some key) other = Some key

-- the key of the last that waits for a manager
abbrev pub last_of : List (Item Slot) → ℕ → Option Key
last_of [] manager = None
last_of (x ∷ xs) manager = or_key (last_of xs manager) (if x.value.manager == manager then Some x.key else None)

-- each names the one behind it that waits for the same manager
abbrev pub AreLinked : List (Item Slot) → Type 0
AreLinked [] = Unit {0}
AreLinked (x ∷ xs) = (x.value.next ≡ first_of xs x.value.manager) × AreLinked xs

-- the slot names this one as the one behind it
abbrev pub linked_to : Slot → Key → Slot
linked_to slot next = record slot { next = Some next }

-- the slots, the one under a key linked to the one under another
abbrev pub linked : List (Item Slot) → Key → Key → List (Item Slot)
linked [] last next = []
linked (x ∷ xs) last next = if same_key x.key last then item x.key (linked_to x.value next) ∷ xs else x ∷ linked xs last next

-- the slots, the last of a queue linked to the one behind it, if there is a last
abbrev pub linked_behind : List (Item Slot) → Option Key → Key → List (Item Slot)
linked_behind items None next = items
linked_behind items (Some last) next = linked items last next

-- the ends are those of what waits for a manager
pub record AreEndsOf (items : List (Item Slot)) (manager : ℕ) (ends : QueueEnds) : Type 0 where
  pub first : ends.first ≡ first_of items manager
  pub last : ends.last ≡ last_of items manager

-- the ends of each queue, from the manager at this place on, are those of what waits for it
abbrev pub AreEnds : List (Item Slot) → ℕ → List QueueEnds → Type 0
AreEnds items i [] = Unit {0}
AreEnds items i (e ∷ es) = AreEndsOf items i e × AreEnds items (suc i) es

-- the queues, from the manager at this place on
abbrev pub queues_in : List (Item Slot) → ℕ → List QueueEnds → List (List Note)
queues_in items i [] = []
queues_in items i (e ∷ es) = notes_of items i ∷ queues_in items (suc i) es

-- the slot waits for one of so many managers
abbrev pub IsSentTo : ℕ → Item Slot → Type 0
IsSentTo count x = x.value.manager < count

-- the slots stand for the queues
pub record AreQueues (items : List (Item Slot)) (ends : List QueueEnds) : Type 0 where
  pub distinct : AreDistinct items
  pub joined : AreLinked items
  pub marked : AreEnds items 0 ends
  pub sent : AllByRecursion (IsSentTo (length ends)) items
