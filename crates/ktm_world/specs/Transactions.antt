-- Transactions by their Ids, and what each one is.
use Rattle.std.specs.Prelude.{◌==◌, ◌&&◌, Bool, true, false, List, [], ◌∷◌, Option, Some, None, if◌then◌else◌}
use Rattle.ktm_base.specs.declared.id.Id.{Id}
use Rattle.ktm_world.specs.declared.object.Transaction.{Transaction}
use Rattle.ktm_world.specs.declared.object.Phase.TheVariants.{Active, Ended}
use Rattle.ktm_world.specs.declared.object.TransactionOutcome.TheVariants.{Undetermined, Committed, Aborted}

-- are they the same Id
abbrev pub same_id : Id → Id → Bool
same_id a b = (a.boot == b.boot) && (a.number == b.number)

-- does something belong to the transaction with this Id; what is plain belongs to none
abbrev pub is_of : Id → Option Id → Bool
is_of id None = false
is_of id (Some other) = same_id id other

-- the transaction with this Id
abbrev pub transaction_at : List Transaction → Id → Option Transaction
transaction_at [] id = None
transaction_at (t ∷ ts) id = if same_id t.id id then Some t else transaction_at ts id

-- the transaction with this Id is changed
abbrev pub change_at : List Transaction → Id → (Transaction → Transaction) → List Transaction
change_at [] id f = []
change_at (t ∷ ts) id f = if same_id t.id id then f t ∷ ts else t ∷ change_at ts id f

-- does the transaction take changes
abbrev pub is_active : Transaction → Bool
is_active t = elim t.phase as (λ _. Bool) [ Active ↦ true | _ ↦ false ]

-- a transaction is live until it has ended
abbrev pub is_live : Transaction → Bool
is_live t = elim t.phase as (λ _. Bool) [ Ended ↦ false | _ ↦ true ]

-- is the outcome that the transaction commits
abbrev pub is_committed : Transaction → Bool
is_committed t = elim t.outcome as (λ _. Bool) [ Undetermined ↦ false | Committed ↦ true | Aborted ↦ false ]

-- is the outcome that the transaction rolls back
abbrev pub is_aborted : Transaction → Bool
is_aborted t = elim t.outcome as (λ _. Bool) [ Undetermined ↦ false | Committed ↦ false | Aborted ↦ true ]

-- has the transaction no outcome yet
abbrev pub is_undecided : Transaction → Bool
is_undecided t = elim t.outcome as (λ _. Bool) [ Undetermined ↦ true | Committed ↦ false | Aborted ↦ false ]
