-- Things with Ids, by rising Id.
use Rattle.std.specs.Prelude.{◌≡◌, not, true, List, [], ◌∷◌, filter, find, Option, if◌then◌else◌}
use Rattle.ktm_base.specs.declared.id.Id.{Id}
use Rattle.ktm_world.specs.Durable.{is_before}
use Rattle.ktm_world.specs.Transactions.{same_id}
use Rattle.txf_laws.specs.Elements.{each_pair}

-- each has a lower Id than those behind it
abbrev pub Rises : {X : Type 0} → (X → Id) → List X → Type 0
Rises id_of xs = each_pair (λ x y. is_before (id_of x) (id_of y)) xs ≡ true

-- the one with this Id
abbrev pub at_id : {X : Type 0} → (X → Id) → List X → Id → Option X
at_id id_of xs id = find (λ x. same_id (id_of x) id) xs

-- those but the one with this Id
abbrev pub without_id : {X : Type 0} → (X → Id) → List X → Id → List X
without_id id_of xs id = filter (λ x. not (same_id (id_of x) id)) xs

-- with one at its place, instead of the one with its Id
abbrev pub placed : {X : Type 0} → (X → Id) → List X → X → List X
placed id_of [] x = x ∷ []
placed id_of (a ∷ xs) x = if same_id (id_of a) (id_of x) then x ∷ xs else (if is_before (id_of x) (id_of a) then x ∷ a ∷ xs else a ∷ placed id_of xs x)
