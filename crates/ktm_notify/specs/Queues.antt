-- What a contract sees of the queues.
use Rattle.std.specs.Prelude.{◌≡◌, ℕ, zero, suc, List, [], ◌∷◌, ◌++◌, Option, Some, None, slice_set}
use Rattle.ktm_notify.specs.declared.note.Note.{Note}

-- the notifications of each resource manager, in order; how many wait, how many can be sent without memory, how many were ever sent, and
-- for how many more queues there is room
pub record QueuesState : Type 0 where
  pub queues : List (List Note)
  pub waiting : ℕ
  pub spare : ℕ
  pub sent : ℕ
  pub room : ℕ

-- as many wait, can be sent and were sent
pub record KeepsSlots (old new : QueuesState) : Type 0 where
  pub waiting : new.waiting ≡ old.waiting
  pub spare : new.spare ≡ old.spare
  pub sent : new.sent ≡ old.sent

-- the queue at a place
abbrev pub queue_at : List (List Note) → ℕ → List Note
queue_at [] i = []
queue_at (q ∷ qs) zero = q
queue_at (q ∷ qs) (suc i) = queue_at qs i

-- the first notification of a queue
abbrev pub first_note : List Note → Option Note
first_note [] = None
first_note (n ∷ ns) = Some n

-- all but the first
abbrev pub behind : List Note → List Note
behind [] = []
behind (n ∷ ns) = ns

-- the queues, one of them with a notification more at its end
abbrev pub with_note : List (List Note) → ℕ → Note → List (List Note)
with_note queues i note = slice_set queues i (queue_at queues i ++ note ∷ [])

-- the queues, one of them without its first notification
abbrev pub without_first : List (List Note) → ℕ → List (List Note)
without_first queues i = slice_set queues i (behind (queue_at queues i))
