-- What a contract sees of the resource managers.
use Rattle.std.specs.Prelude.{◌≡◌, ℕ, ◌≤◌, List, [], ◌∷◌, map, Option, Some, None}
use Rattle.ktm_notify.specs.declared.note.Note.{Note as Waiting}
use Rattle.ktm_world.specs.Enlistments.{Manager, Note}
use Rattle.ktm_manager.specs.declared.managers.Listed.{Listed}

-- the resource managers in order, how many notifications can be sent without memory, and how many managers can be added without it
pub record ManagersState : Type 0 where
  pub managers : List Manager
  pub spare : ℕ
  pub room : ℕ

-- the managers are the same, and as many notifications can be sent
pub record KeepsManagers (old new : ManagersState) : Type 0 where
  pub managers : new.managers ≡ old.managers
  pub spare : new.spare ≡ old.spare

-- a notification that waits
abbrev pub note_of : Waiting → Note
note_of n = record { kind = n.kind; enlistment = n.enlistment }

-- a resource manager with its queue
abbrev pub manager_of : Listed → List Waiting → Manager
manager_of x queue = record { id = x.id; is_durable = x.is_durable; queue = map note_of queue }

-- the resource managers, each with the queue at its place
abbrev pub managers_in : List Listed → List (List Waiting) → List Manager
managers_in [] queues = []
managers_in (x ∷ xs) [] = manager_of x [] ∷ managers_in xs []
managers_in (x ∷ xs) (q ∷ qs) = manager_of x q ∷ managers_in xs qs

-- the first of a queue
abbrev pub first_in : List Note → Option Note
first_in [] = None
first_in (n ∷ ns) = Some n

-- the first notification that waits for a resource manager, where there is one
abbrev pub first_of : Option Manager → Option Note
first_of None = None
first_of (Some m) = first_in m.queue
