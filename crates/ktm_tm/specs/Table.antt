-- The transactions as they are kept: whole until they have ended, and then only their outcome and whether they are recorded.
use Rattle.std.specs.Prelude.{◌≡◌, ℕ, ◌+◌, false, List, [], ◌∷◌, Option, Some, None, filter, find}
use Rattle.ktm_base.specs.declared.id.Id.{Id}
use Rattle.ktm_world.specs.declared.object.Phase.TheVariants.{Ended}
use Rattle.ktm_world.specs.declared.object.Transaction.{Transaction}
use Rattle.ktm_world.specs.Transactions.{is_live, same_id}
use Rattle.ktm_tm.specs.declared.ending.Ending.{Ending}
use Rattle.ktm_tm.specs.Listed.{AreListed}

-- what is seen of the transactions that are kept
pub record TableState : Type 0 where
  -- the boot in which they are made, and how many were made in it
  pub boot : ℕ
  pub made : ℕ
  pub items : List Transaction
  -- how many more there is room for
  pub room : ℕ

-- the timeout of the transaction and when it was made are forgotten if it has ended
abbrev pub IsForgotten : Transaction → Type 0
IsForgotten t = is_live t ≡ false → (t.timeout ≡ 0) × (t.created ≡ 0)

-- the transaction that has ended so
abbrev pub ended_with : Id → Ending → Transaction
ended_with id e = record { id = id; timeout = 0; created = 0; phase = Ended; outcome = e.outcome; is_recorded = e.is_recorded }

-- the live transaction, if there is one, and else the one that has ended so
abbrev pub live_or_ended : Option Transaction → Id → Ending → Transaction
live_or_ended (Some t) id e = t
live_or_ended None id e = ended_with id e

-- the transaction with this Id: one of the live ones, or else one that has ended so
abbrev pub one_of : List Transaction → Id → Ending → Transaction
one_of live id e = live_or_ended (find (λ t. same_id t.id id) live) id e

-- the transactions of this boot, with the numbers behind this one
abbrev pub numbered_of : ℕ → ℕ → List Ending → List Transaction → List Transaction
numbered_of boot before [] live = []
numbered_of boot before (e ∷ es) live = one_of live (record { boot = boot; number = before + 1 }) e ∷ numbered_of boot (before + 1) es live

-- all transactions: those that were brought back, and those of this boot
abbrev pub all_of : ℕ → List Id → List Ending → List Transaction → List Transaction
all_of boot [] es live = numbered_of boot 0 es live
all_of boot (id ∷ back) [] live = []
all_of boot (id ∷ back) (e ∷ es) live = one_of live id e ∷ all_of boot back es live

-- each transaction that is not live has ended as it is kept
abbrev pub AreEndings : List Ending → List Transaction → Type 0
AreEndings [] [] = Unit {0}
AreEndings [] (t ∷ ts) = ⊥
AreEndings (e ∷ es) [] = ⊥
AreEndings (e ∷ es) (t ∷ ts) = (is_live t ≡ false → t ≡ ended_with t.id e) × AreEndings es ts

-- these are kept of the transactions
pub record IsTable (boot : ℕ) (back : List Id) (endings : List Ending) (live ts : List Transaction) : Type 0 where
  pub listed : AreListed boot back ts
  pub endings_are : AreEndings endings ts
  pub live_are : live ≡ filter is_live ts
