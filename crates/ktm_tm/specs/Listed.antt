-- How the transactions stand in their list, and the enlistments: those that a restart brought back, by rising Id, and then those of this boot by their numbers.
use Rattle.std.specs.Prelude.{◌≡◌, ℕ, zero, suc, ◌+◌, ◌<◌, ◌≤◌, ◌&&◌, Bool, true, nat_le, List, [], ◌∷◌, length, find, Some, None, slice_index_or, slice_set}
use Rattle.std.specs.List.{list_all}
use Rattle.ktm_base.specs.declared.id.Id.{Id}
use Rattle.ktm_world.specs.declared.object.Transaction.{Transaction}
use Rattle.ktm_world.specs.Durable.{is_before}
use Rattle.ktm_world.specs.Enlistments.{Enlistment}
use Rattle.ktm_world.specs.Transactions.{transaction_at, change_at, is_live, same_id}
use Rattle.ktm_manager.specs.Rising.{are_rising}
use Rattle.ktm_tm.specs.TmState.{id_after, if_live}

-- the transactions are of this boot, and their numbers follow one another, from the one behind this
abbrev pub AreNumbered : ℕ → ℕ → List Transaction → Type 0
AreNumbered boot before [] = Unit {0}
AreNumbered boot before (t ∷ ts) = (t.id ≡ record { boot = boot; number = before + 1 }) × AreNumbered boot (before + 1) ts

-- those with these Ids are of earlier boots, and those behind them are of this boot, by their numbers from 1 on
abbrev pub AreSplit : ℕ → List Id → List Transaction → Type 0
AreSplit boot [] ts = AreNumbered boot 0 ts
AreSplit boot (id ∷ back) [] = ⊥
AreSplit boot (id ∷ back) (t ∷ ts) = (t.id ≡ id) × (id.boot < boot) × AreSplit boot back ts

-- those with these Ids were brought back, and all stand by rising Id
pub record AreListed (boot : ℕ) (back : List Id) (ts : List Transaction) : Type 0 where
  pub rising : are_rising (λ t. t.id) ts ≡ true
  pub within : length back ≤ length ts
  pub split : AreSplit boot back ts

-- does each Id come before that of the object that is made next, where this was the last number
abbrev pub are_before_next : {X : Type 0} → (X → Id) → ℕ → ℕ → List X → Bool
are_before_next {X} id_of boot last xs = list_all (λ (x : X). is_before (id_of x) (id_after boot last)) xs

-- is the number that of one of so many that were made
abbrev pub is_number : ℕ → ℕ → Bool
is_number count number = nat_le 1 number && nat_le number count

-- the transaction with this Id is the one at this place, and is found and changed there
pub record IsPlace (ts : List Transaction) (id : Id) (i : ℕ) : Type 0 where
  pub within : i < length ts
  pub named : (d : Transaction) → (slice_index_or ts i d).id ≡ id
  pub found : (d : Transaction) → transaction_at ts id ≡ Some (slice_index_or ts i d)
  pub live : (d : Transaction) → find (λ t. is_live t && same_id t.id id) ts ≡ if_live (slice_index_or ts i d)
  pub changes : (f : Transaction → Transaction) (d : Transaction) → change_at ts id f ≡ slice_set ts i (f (slice_index_or ts i d))

-- there is no transaction with this Id
pub record IsAbsent (ts : List Transaction) (id : Id) : Type 0 where
  pub absent : transaction_at ts id ≡ None
  pub none_live : find (λ t. is_live t && same_id t.id id) ts ≡ None
  pub keeps : (f : Transaction → Transaction) → change_at ts id f ≡ ts

-- there are at least so many enlistments, and all behind the first so many are recovered
abbrev pub AreRecoveredBehind : ℕ → List Enlistment → Type 0
AreRecoveredBehind zero es = list_all (λ (e : Enlistment). e.is_recovered) es ≡ true
AreRecoveredBehind (suc back) [] = ⊥
AreRecoveredBehind (suc back) (e ∷ es) = AreRecoveredBehind back es
