-- Things by rising Id.
use Rattle.std.specs.Prelude.{◌≡◌, ℕ, zero, suc, Bool, true, false, List, [], ◌∷◌}
use Rattle.std.specs.Ordering.{nat_cmp, ordering_then}
use Rattle.std.specs.declared.cmp.Ordering.{Ordering}
use Rattle.ktm_base.specs.declared.id.Id.{Id}
use Rattle.ktm_world.specs.Durable.{is_before}
use Rattle.ktm_world.specs.Transactions.{same_id}
use Rattle.txf_laws.specs.Elements.{each_pair}

-- which of two Ids comes first
abbrev pub id_order : Id → Id → Ordering
id_order a b = ordering_then (nat_cmp a.boot b.boot) (nat_cmp a.number b.number)

-- does each come before those behind it
abbrev pub are_rising : {X : Type 0} → (X → Id) → List X → Bool
are_rising {X} id_of xs = each_pair (λ (x y : X). is_before (id_of x) (id_of y)) xs

-- none has this Id
abbrev pub IsNowhere : {X : Type 0} → (X → Id) → List X → Id → Type 0
IsNowhere id_of [] id = Unit {0}
IsNowhere id_of (x ∷ xs) id = (same_id (id_of x) id ≡ false) × IsNowhere id_of xs id

-- the one at this place has this Id, and no other has it
abbrev pub IsAt : {X : Type 0} → (X → Id) → List X → Id → ℕ → Type 0
IsAt id_of [] id i = ⊥
IsAt id_of (x ∷ xs) id zero = (same_id (id_of x) id ≡ true) × IsNowhere id_of xs id
IsAt id_of (x ∷ xs) id (suc i) = (same_id (id_of x) id ≡ false) × IsAt id_of xs id i
