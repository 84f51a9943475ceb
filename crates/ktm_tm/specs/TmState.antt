-- What the manager shows, and what it makes.
use Rattle.std.specs.Prelude.{◌≡◌, ℕ, ◌+◌, true, false, List, [], ◌∷◌, ◌++◌, Option, Some, None, if◌then◌else◌}
use Rattle.ktm_base.specs.declared.id.Id.{Id}
use Rattle.ktm_world.specs.declared.object.Phase.TheVariants.{Active}
use Rattle.ktm_world.specs.declared.object.Transaction.{Transaction}
use Rattle.ktm_world.specs.declared.object.TransactionOutcome.TheVariants.{Undetermined}
use Rattle.ktm_world.specs.declared.options.EnlistmentKind.{EnlistmentKind}
use Rattle.ktm_world.specs.Enlistments.{Enlistment, Manager}
use Rattle.ktm_world.specs.Present.{Transactions}
use Rattle.ktm_world.specs.Transactions.{is_live}

-- what the manager shows
pub record TmState : Type 0 where
  -- the boot in which its objects are made
  pub boot : ℕ
  pub now : Transactions
  pub managers : List Manager
  -- how many transactions, enlistments and resource managers can be made, and how many notifications sent, with no more memory
  pub room : ℕ
  pub enlistment_room : ℕ
  pub manager_room : ℕ
  pub slots : ℕ

-- all but the transactions and their room is as it was
pub record KeepsManaging (old new : TmState) : Type 0 where
  pub managers : new.managers ≡ old.managers
  pub enlistment_room : new.enlistment_room ≡ old.enlistment_room
  pub manager_room : new.manager_room ≡ old.manager_room
  pub slots : new.slots ≡ old.slots

-- the boot and all room is as it was, but that for notifications
pub record KeepsRoom (old new : TmState) : Type 0 where
  pub boot : new.boot ≡ old.boot
  pub room : new.room ≡ old.room
  pub enlistment_room : new.enlistment_room ≡ old.enlistment_room
  pub manager_room : new.manager_room ≡ old.manager_room

-- all but the enlistments and their room is as it was
pub record KeepsOthers (old new : TmState) : Type 0 where
  pub boot : new.boot ≡ old.boot
  pub managers : new.managers ≡ old.managers
  pub room : new.room ≡ old.room
  pub manager_room : new.manager_room ≡ old.manager_room
  pub slots : new.slots ≡ old.slots

-- what is so now is as it was, and the room for transactions
pub record KeepsNow (old new : TmState) : Type 0 where
  pub boot : new.boot ≡ old.boot
  pub now : new.now ≡ old.now
  pub managers : new.managers ≡ old.managers
  pub room : new.room ≡ old.room

-- the transaction, unless it has ended
abbrev pub if_live : Transaction → Option Transaction
if_live t = if is_live t then Some t else None

-- the Id of the object that is made next in this boot, where this was the last number
abbrev pub id_after : ℕ → ℕ → Id
id_after boot last = record { boot = boot; number = last + 1 }

-- the Id of the transaction that is made next in this boot
abbrev pub next_id : ℕ → Transactions → Id
next_id boot now = id_after boot now.last_transaction

-- a transaction more, which begins now and is active
abbrev pub with_new : ℕ → Transactions → ℕ → Transactions
with_new boot now timeout = record now {
  last_transaction = now.last_transaction + 1;
  items = now.items ++ record { id = next_id boot now; timeout = timeout; created = now.clock; phase = Active; outcome = Undetermined; is_recorded = false } ∷ [];
}

-- an enlistment that owes nothing and has answered nothing
abbrev pub new_enlistment : Id → Id → Id → EnlistmentKind → Enlistment
new_enlistment id manager transaction kind =
    record { id = id; manager = manager; transaction = transaction; kind = kind; owes = None; is_read_only = false; is_prepared = false; is_finished = false; is_recovered = true; information = [] }

-- an enlistment more, with the next number
abbrev pub with_enlisted : ℕ → Transactions → Id → Id → EnlistmentKind → Transactions
with_enlisted boot now manager transaction kind = record now {
  last_enlistment = now.last_enlistment + 1;
  enlistments = now.enlistments ++ new_enlistment (id_after boot now.last_enlistment) manager transaction kind ∷ [];
}
