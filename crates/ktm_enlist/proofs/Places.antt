-- At which places enlistments stand, where one is changed, and where one more comes.
use Rattle.std.proofs.Common.{◌≡◌, ℕ, zero, suc, ◌+◌, ◌<◌, Bool, true, false, List, [], ◌∷◌, ◌++◌, length, get_or, set, take, drop, find, Option, Some, None, refl, sym, ◌∙◌, ap, subst, arith, add-one, inl, inr}
use Rattle.std.specs.Prelude.{if◌then◌else◌}
use Rattle.std.proofs.lemmas.Bool.{cases_Bool}
use Rattle.std.proofs.lemmas.Option.{none-some, same_Some}
use Rattle.ktm_base.specs.declared.id.Id.{Id}
use Rattle.ktm_world.specs.Enlistments.{Enlistment}
use Rattle.ktm_world.specs.Transactions.{same_id}
use Rattle.txf_laws.proofs.offered.Tables.{same_id-equal, same_id-from, same_id-sym}
use Rattle.ktm_enlist.specs.Places.{changed, is_own, links, place_from, HasNone, IsLastAt, PassesAt}

-- ---- what is found

-- where the first that passes stands
pub record IsFound (test : Enlistment → Bool) (k : ℕ) (es : List Enlistment) (p : ℕ) : Type 0 where
  pub offset : ℕ
  pub is : p ≡ k + offset
  pub before : HasNone test (take offset es)
  pub here : PassesAt test es offset

-- where a place is given, one stands there that passes, and none before it
pub found_from : (test : Enlistment → Bool) (k : ℕ) (es : List Enlistment) (p : ℕ) → place_from test k es ≡ Some p → IsFound test k es p
found_from test k [] p is = absurd (none-some p is)
found_from test k (e ∷ es) p is = elim (cases_Bool (test e)) [
  | inl passes ↦
      let same : k ≡ p = same_Some k p (rw passes at is) in
      record { offset = 0; is = omega (arith, same); before = tt; here = passes }
  | inr missed ↦
      let rest = found_from test (suc k) es p (rw missed at is) in
      record { offset = suc rest.offset; is = omega (arith, rest.is); before = (missed, rest.before); here = rest.here }
]

-- where none stands, none passes
pub none_from : (test : Enlistment → Bool) (k : ℕ) (es : List Enlistment) → place_from test k es ≡ None → HasNone test es
none_from test k [] is = tt
none_from test k (e ∷ es) is = elim (cases_Bool (test e)) [
  | inl passes ↦ absurd (none-some k (sym (rw passes at is)))
  | inr missed ↦ (missed, none_from test (suc k) es (rw missed at is))
]

-- where none passes, no place is given
pub from_none : (test : Enlistment → Bool) (k : ℕ) (es : List Enlistment) → HasNone test es → place_from test k es ≡ None
from_none test k [] none = refl
from_none test k (e ∷ es) none = rw none.0 (from_none test (suc k) es none.1)

-- one test fails where another does
pub none_too : (test other : Enlistment → Bool) → ((e : Enlistment) → test e ≡ false → other e ≡ false) → (es : List Enlistment) → HasNone test es → HasNone other es
none_too test other fails [] none = tt
none_too test other fails (e ∷ es) none = (fails e none.0, none_too test other fails es none.1)

-- one that passes stands among them
pub passes_within : (test : Enlistment → Bool) (es : List Enlistment) (i : ℕ) → PassesAt test es i → i < length es
passes_within test [] i at = absurd at
passes_within test (e ∷ es) zero at = omega arith
passes_within test (e ∷ es) (suc i) at = let rest = passes_within test es i at in omega (arith, rest)

-- the first that passes is what is found
pub find_at : (test : Enlistment → Bool) (es : List Enlistment) (i : ℕ) (d : Enlistment) → HasNone test (take i es) → PassesAt test es i → find test es ≡ Some (get_or es i d)
find_at test [] i d none at = absurd at
find_at test (e ∷ es) zero d none at = rw at refl
find_at test (e ∷ es) (suc i) d none at = rw none.0 (find_at test es i d none.1 at)

-- where none passes, nothing is found
pub find_none : (test : Enlistment → Bool) (es : List Enlistment) → HasNone test es → find test es ≡ None
find_none test [] none = refl
find_none test (e ∷ es) none = rw none.0 (find_none test es none.1)

-- the first of all that passes is at its place
pub place_within : (test : Enlistment → Bool) (es : List Enlistment) (p : ℕ) → place_from test 0 es ≡ Some p → p < length es
place_within test es p is =
    let found = found_from test 0 es p is in
    omega (arith, found.is, passes_within test es found.offset found.here)

-- what is found is what stands at the place
pub found_at : (test : Enlistment → Bool) (es : List Enlistment) (p : ℕ) (d : Enlistment) → place_from test 0 es ≡ Some p → find test es ≡ Some (get_or es p d)
found_at test es p d is =
    let found = found_from test 0 es p is in
    let same : found.offset ≡ p = omega (arith, found.is) in
    find_at test es found.offset d found.before found.here ∙ ap (λ (n : ℕ). Some (get_or es n d)) same

-- ---- one that is changed

-- a change at a place, as a list is written to
pub changed_is : (f : Enlistment → Enlistment) (es : List Enlistment) (i : ℕ) (d : Enlistment) → set es i (f (get_or es i d)) ≡ changed f es i
changed_is f [] i d = refl
changed_is f (e ∷ es) zero d = refl
changed_is f (e ∷ es) (suc i) d = ap (λ (l : List Enlistment). e ∷ l) (changed_is f es i d)

-- they are as many as before
pub changed_length : (f : Enlistment → Enlistment) (es : List Enlistment) (i : ℕ) → length (changed f es i) ≡ length es
changed_length f [] i = refl
changed_length f (e ∷ es) zero = refl
changed_length f (e ∷ es) (suc i) = ap suc (changed_length f es i)

module _ (test : Enlistment → Bool) (f : Enlistment → Enlistment) (same : (e : Enlistment) → test (f e) ≡ test e) where
  pub place_changed : (k : ℕ) (es : List Enlistment) (i : ℕ) → place_from test k (changed f es i) ≡ place_from test k es
  place_changed k [] i = refl
  place_changed k (e ∷ es) zero = rw (same e) refl
  place_changed k (e ∷ es) (suc i) = ap (λ (o : Option ℕ). if test e then Some k else o) (place_changed (suc k) es i)

  -- none passes after the change, where none did
  pub none_changed : (es : List Enlistment) (i : ℕ) → HasNone test es → HasNone test (changed f es i)
  none_changed [] i none = none
  none_changed (e ∷ es) zero none = (same e ∙ none.0, none.1)
  none_changed (e ∷ es) (suc i) none = (none.0, none_changed es i none.1)

  -- the last that passes is the last as before
  pub last_changed : (es : List Enlistment) (i j : ℕ) → IsLastAt test es j → IsLastAt test (changed f es i) j
  last_changed [] i j at = absurd at
  last_changed (e ∷ es) zero zero at = (same e ∙ at.0, at.1)
  last_changed (e ∷ es) zero (suc j) at = at
  last_changed (e ∷ es) (suc i) zero at = (at.0, none_changed es i at.1)
  last_changed (e ∷ es) (suc i) (suc j) at = last_changed es i j at

-- the links stay as they are where the transaction does
pub links_changed : (f : Enlistment → Enlistment) → ((e : Enlistment) → (f e).transaction ≡ e.transaction) → (k : ℕ) (es : List Enlistment) (i : ℕ) → links k (changed f es i) ≡ links k es
links_changed f same k [] i = refl
links_changed f same k (e ∷ es) zero = ap (λ (id : Id). place_from (is_own id) (suc k) es ∷ links (suc k) es) (same e)
links_changed f same k (e ∷ es) (suc i) =
    rw (place_changed (is_own e.transaction) f (λ x. ap (λ (id : Id). same_id id e.transaction) (same x)) (suc k) es i, links_changed f same (suc k) es i) refl

-- ---- one more behind all others

-- the place, or else this one
abbrev pub or_place : Option ℕ → Option ℕ → Option ℕ
or_place None other = other
or_place (Some p) other = Some p

module _ (test : Enlistment → Bool) (e : Enlistment) where
  pub place_push : (k : ℕ) (es : List Enlistment) → place_from test k (es ++ e ∷ []) ≡ or_place (place_from test k es) (if test e then Some (k + length es) else None)
  place_push k [] = let same : k ≡ k + 0 = omega arith in ap (λ (n : ℕ). if test e then Some n else None) same
  place_push k (x ∷ xs) = elim (cases_Bool (test x)) [
    | inl passes ↦ rw passes refl
    | inr missed ↦
        let same : suc k + length xs ≡ k + suc (length xs) = omega arith in
        rw missed (place_push (suc k) xs ∙ ap (λ (n : ℕ). or_place (place_from test (suc k) xs) (if test e then Some n else None)) same)
  ]

  -- one more that fails changes nothing
  pub place_push_other : (k : ℕ) (es : List Enlistment) → test e ≡ false → place_from test k (es ++ e ∷ []) ≡ place_from test k es
  place_push_other k [] other = rw other refl
  place_push_other k (x ∷ xs) other = ap (λ (o : Option ℕ). if test x then Some k else o) (place_push_other (suc k) xs other)

  -- one more that passes, where none did, is the first
  pub place_push_first : (k : ℕ) (es : List Enlistment) → HasNone test es → test e ≡ true → place_from test k (es ++ e ∷ []) ≡ Some (k + length es)
  place_push_first k es none own = place_push k es ∙ (rw (from_none test k es none, own) refl)

  -- where one passed before, one more changes nothing
  pub place_push_there : (k : ℕ) (es : List Enlistment) (j : ℕ) → IsLastAt test es j → place_from test k (es ++ e ∷ []) ≡ place_from test k es
  place_push_there k [] j at = absurd at
  place_push_there k (x ∷ xs) zero at = rw at.0 refl
  place_push_there k (x ∷ xs) (suc j) at = ap (λ (o : Option ℕ). if test x then Some k else o) (place_push_there (suc k) xs j at)

  -- none passes with one more that fails
  pub none_push : (es : List Enlistment) → HasNone test es → test e ≡ false → HasNone test (es ++ e ∷ [])
  none_push [] none other = (other, tt)
  none_push (x ∷ xs) none other = (none.0, none_push xs none.1 other)

  -- one more that passes is the last
  pub last_push : (es : List Enlistment) → test e ≡ true → IsLastAt test (es ++ e ∷ []) (length es)
  last_push [] own = (own, tt)
  last_push (x ∷ xs) own = last_push xs own

  -- with one more that fails the last is the last as before
  pub last_push_other : (es : List Enlistment) (j : ℕ) → test e ≡ false → IsLastAt test es j → IsLastAt test (es ++ e ∷ []) j
  last_push_other [] j other at = absurd at
  last_push_other (x ∷ xs) zero other at = (at.0, none_push xs at.1 other)
  last_push_other (x ∷ xs) (suc j) other at = last_push_other xs j other at

-- the last that passes stands among them
pub last_within : (test : Enlistment → Bool) (es : List Enlistment) (j : ℕ) → IsLastAt test es j → j < length es
last_within test [] j at = absurd at
last_within test (e ∷ es) zero at = omega arith
last_within test (e ∷ es) (suc j) at = let rest = last_within test es j at in omega (arith, rest)

-- ---- the links

-- each has a link
pub links_length : (k : ℕ) (es : List Enlistment) → length (links k es) ≡ length es
links_length k [] = refl
links_length k (e ∷ es) = ap suc (links_length (suc k) es)

-- the link of an enlistment is the place of the next one of its transaction
pub link_at : (id : Id) (k : ℕ) (es : List Enlistment) (i : ℕ) (d : Option ℕ) → PassesAt (is_own id) es i → get_or (links k es) i d ≡ place_from (is_own id) (suc (k + i)) (drop (suc i) es)
link_at id k [] i d at = absurd at
link_at id k (e ∷ es) zero d at =
    let same : k ≡ k + 0 = omega arith in
    ap (λ (own : Id). place_from (is_own own) (suc k) es) (same_id-equal e.transaction id at) ∙ ap (λ (n : ℕ). place_from (is_own id) (suc n) es) same
link_at id k (e ∷ es) (suc i) d at =
    let same : suc k + i ≡ k + suc i = omega arith in
    link_at id (suc k) es i d at ∙ ap (λ (n : ℕ). place_from (is_own id) (suc n) (drop (suc i) es)) same

-- the first of its transaction is named by none
pub links_begun : (k : ℕ) (es : List Enlistment) (e : Enlistment) → HasNone (is_own e.transaction) es → links k (es ++ e ∷ []) ≡ links k es ++ None ∷ []
links_begun k [] e none = refl
links_begun k (x ∷ xs) e none =
    rw (place_push_other (is_own x.transaction) e (suc k) xs (same_id-sym x.transaction e.transaction none.0), links_begun (suc k) xs e none.1) refl

-- another is named by the last before it
pub links_joined : (k : ℕ) (es : List Enlistment) (e : Enlistment) (j : ℕ) → IsLastAt (is_own e.transaction) es j → links k (es ++ e ∷ []) ≡ set (links k es) j (Some (k + length es)) ++ None ∷ []
links_joined k [] e j at = absurd at
links_joined k (x ∷ xs) e zero at =
    let same : suc k + length xs ≡ k + suc (length xs) = omega arith in
    let own = same_id-equal x.transaction e.transaction at.0 in
    let named : place_from (is_own x.transaction) (suc k) (xs ++ e ∷ []) ≡ Some (k + suc (length xs)) =
    place_push_first (is_own x.transaction) e (suc k) xs (subst (λ (id : Id). HasNone (is_own id) xs) (sym own) at.1) (same_id-from e.transaction x.transaction (sym own))
    ∙ ap (λ (n : ℕ). Some n) same in
    rw (named, links_begun (suc k) xs e at.1) refl
links_joined k (x ∷ xs) e (suc j) at =
    let same : suc k + length xs ≡ k + suc (length xs) = omega arith in
    let named : place_from (is_own x.transaction) (suc k) (xs ++ e ∷ []) ≡ place_from (is_own x.transaction) (suc k) xs =
    elim (cases_Bool (same_id e.transaction x.transaction)) [
      | inl own ↦ place_push_there (is_own x.transaction) e (suc k) xs j (subst (λ (id : Id). IsLastAt (is_own id) xs j) (same_id-equal e.transaction x.transaction own) at)
      | inr other ↦ place_push_other (is_own x.transaction) e (suc k) xs other
    ] in
    rw (named, links_joined (suc k) xs e j at) (ap (λ (n : ℕ). place_from (is_own x.transaction) (suc k) xs ∷ (set (links (suc k) xs) j (Some n) ++ None ∷ [])) same)

-- the link at a place among all is the place of the next one of its transaction
pub link_behind : (id : Id) (es : List Enlistment) (next : List (Option ℕ)) (p : ℕ) (d : Option ℕ) → next ≡ links 0 es → PassesAt (is_own id) es p → get_or next p d ≡ place_from (is_own id) (p + 1) (drop (p + 1) es)
link_behind id es next p d chained at =
    let same : 0 + p ≡ p = omega arith in
    ap (λ (l : List (Option ℕ)). get_or l p d) chained ∙ link_at id 0 es p d at ∙ ap (λ (n : ℕ). place_from (is_own id) (suc n) (drop (suc p) es)) same
    ∙ ap (λ (n : ℕ). place_from (is_own id) n (drop n es)) (sym (add-one p))
