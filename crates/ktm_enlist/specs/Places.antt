-- At which places the enlistments of a transaction stand.
use Rattle.std.specs.Prelude.{◌≡◌, ◌&&◌, ℕ, zero, suc, Bool, true, false, List, [], ◌∷◌, Option, Some, None, if◌then◌else◌, slice_set}
use Rattle.ktm_base.specs.declared.id.Id.{Id}
use Rattle.ktm_world.specs.Enlistments.{Enlistment, is_superior}
use Rattle.ktm_world.specs.Transactions.{same_id}

-- is it an enlistment of the transaction
abbrev pub is_own : Id → Enlistment → Bool
is_own id e = same_id e.transaction id

-- is it the superior of the transaction
abbrev pub is_superior_of : Id → Enlistment → Bool
is_superior_of id e = same_id e.transaction id && is_superior e

-- the place of the first that passes the test, where the first of all stands at this one
abbrev pub place_from : (Enlistment → Bool) → ℕ → List Enlistment → Option ℕ
place_from test k [] = None
place_from test k (e ∷ es) = if test e then Some k else place_from test (suc k) es

-- none passes the test
abbrev pub HasNone : (Enlistment → Bool) → List Enlistment → Type 0
HasNone test [] = Unit {0}
HasNone test (e ∷ es) = (test e ≡ false) × HasNone test es

-- the one at this place passes the test
abbrev pub PassesAt : (Enlistment → Bool) → List Enlistment → ℕ → Type 0
PassesAt test [] i = ⊥
PassesAt test (e ∷ es) zero = test e ≡ true
PassesAt test (e ∷ es) (suc i) = PassesAt test es i

-- the one at this place is the last that passes the test
abbrev pub IsLastAt : (Enlistment → Bool) → List Enlistment → ℕ → Type 0
IsLastAt test [] i = ⊥
IsLastAt test (e ∷ es) zero = (test e ≡ true) × HasNone test es
IsLastAt test (e ∷ es) (suc i) = IsLastAt test es i

-- the one at this place passes the test, and no other does
abbrev pub IsOnlyAt : (Enlistment → Bool) → List Enlistment → ℕ → Type 0
IsOnlyAt test [] i = ⊥
IsOnlyAt test (e ∷ es) zero = (test e ≡ true) × HasNone test es
IsOnlyAt test (e ∷ es) (suc i) = (test e ≡ false) × IsOnlyAt test es i

-- of each enlistment the place of the next one of its transaction
abbrev pub links : ℕ → List Enlistment → List (Option ℕ)
links k [] = []
links k (e ∷ es) = place_from (is_own e.transaction) (suc k) es ∷ links (suc k) es

-- the links, that of the last enlistment before to this place, if there is one
abbrev pub linked : List (Option ℕ) → Option ℕ → ℕ → List (Option ℕ)
linked next None place = next
linked next (Some last) place = slice_set next last (Some place)

-- the enlistments, of which the one at this place is changed
abbrev pub changed : (Enlistment → Enlistment) → List Enlistment → ℕ → List Enlistment
changed f [] i = []
changed f (e ∷ es) zero = f e ∷ es
changed f (e ∷ es) (suc i) = e ∷ changed f es i
