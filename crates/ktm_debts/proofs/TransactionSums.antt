-- Sums over transactions, of which each has its own Id, and over lists of which one element changes.
use Rattle.std.proofs.Common.{◌≡◌, ℕ, ◌+◌, ◌≤◌, true, false, Bool, List, [], ◌∷◌, filter, sum_by, refl, sym, ◌∙◌, ap, arith, inl, inr}
use Rattle.std.specs.Prelude.{if◌then◌else◌}
use Rattle.std.proofs.lemmas.Bool.{and_parts, cases_Bool, false_from_ne_true}
use Rattle.std.proofs.lemmas.List.Sums.{sum_by-cons}
use Rattle.std.specs.List.{list_all}
use Rattle.ktm_base.specs.declared.id.Id.{Id}
use Rattle.ktm_world.specs.declared.object.Transaction.{Transaction}
use Rattle.ktm_world.specs.Durable.{is_before}
use Rattle.ktm_world.specs.Transactions.{change_at, same_id}
use Rattle.txf_laws.specs.Elements.{IsIn, each_pair}
use Rattle.txf_laws.proofs.offered.Elements.{list_all-at}
use Rattle.txf_laws.proofs.offered.Sums.{sum-less}
use Rattle.txf_laws.proofs.offered.Tables.{before_other, other_id, same_id-equal}
use Rattle.ktm_courses.proofs.offered.Arrivals.{RiseTransactions}
use Rattle.ktm_courses.proofs.offered.Moves.{same-by_id}

-- ---- any lists

-- of those that pass a test
pub sum-filter : {X : Type 0} (f : X → ℕ) (test : X → Bool) (xs : List X) → sum_by f (filter test xs) ≡ sum_by (λ x. if test x then f x else 0) xs
sum-filter f test [] = refl
sum-filter f test (x ∷ xs) =
    let rest = sum-filter f test xs in
    let all = sum_by-cons (λ x. if test x then f x else 0) x xs in
    let one : sum_by f (filter test (x ∷ xs)) ≡ (if test x then f x else 0) + sum_by f (filter test xs) = go (test x) in
    omega arith
  where
    go : (is : Bool) → sum_by f (if is then x ∷ filter test xs else filter test xs) ≡ (if is then f x else 0) + sum_by f (filter test xs)
    go true = sum_by-cons f x (filter test xs)
    go false = omega arith

-- where each is none
pub sum-none : {X : Type 0} (f : X → ℕ) (xs : List X) → ((x : X) → IsIn x xs → f x ≡ 0) → sum_by f xs ≡ 0
sum-none f [] none = refl
sum-none f (x ∷ xs) none =
    let rest = sum-none f xs (λ y there. none y (inr there)) in let one = none x (inl refl) in let all = sum_by-cons f x xs in omega arith

-- where none is more, and one is less by so much
pub sum-falls : {X : Type 0} (f g : X → ℕ) (n : ℕ) (xs : List X) (x : X) → IsIn x xs → ((y : X) → IsIn y xs → g y ≤ f y) → n + g x ≤ f x → n + sum_by g xs ≤ sum_by f xs
sum-falls f g n [] x there less one = absurd there
sum-falls f g n (y ∷ ys) x (inl e) less one =
    let here = ap f e in
    let here' = ap g e in
    let rest = sum-less g f ys (λ z later. less z (inr later)) in
    let before = sum_by-cons f y ys in
    let after = sum_by-cons g y ys in
    omega arith
sum-falls f g n (y ∷ ys) x (inr there) less one =
    let rest = sum-falls f g n ys x there (λ z later. less z (inr later)) one in
    let head = less y (inl refl) in
    let before = sum_by-cons f y ys in
    let after = sum_by-cons g y ys in
    omega arith

-- ---- transactions

-- those behind one have other Ids
behind-other : (t : Transaction) (ts : List Transaction) (id : Id) → list_all (λ (u : Transaction). is_before t.id u.id) ts ≡ true → same_id t.id id ≡ true → (u : Transaction) → IsIn u ts → same_id u.id id ≡ false
behind-other t ts id before is u there = false_from_ne_true _ (λ same. before_other t.id u.id (list_all-at (λ (u : Transaction). is_before t.id u.id) ts before u there) (same_id-equal t.id id is ∙ sym (same_id-equal u.id id same)))

-- of what is none but where the Id is this one
pub sum-at_one : (g : Transaction → ℕ) (most : ℕ) (id : Id) (ts : List Transaction) → RiseTransactions ts → ((t : Transaction) → IsIn t ts → g t ≤ most) → ((t : Transaction) → IsIn t ts → same_id t.id id ≡ false → g t ≡ 0) → sum_by g ts ≤ most
sum-at_one g most id [] rise few none = omega arith
sum-at_one g most id (t ∷ ts) rise few none =
    let both = and_parts (list_all (λ (u : Transaction). is_before t.id u.id) ts) (each_pair (λ (t u : Transaction). is_before t.id u.id) ts) rise in
    let all = sum_by-cons g t ts in
    elim (cases_Bool (same_id t.id id)) [
      | inl is ↦ let rest = sum-none g ts (λ u there. none u (inr there) (behind-other t ts id both.0 is u there)) in let one = few t (inl refl) in omega arith
      | inr other ↦ let one = none t (inl refl) other in let rest = sum-at_one g most id ts both.1 (λ u there. few u (inr there)) (λ u there. none u (inr there)) in omega arith
    ]

-- where one is changed, and is less by so much, and no other is more
pub sum-changed : (f g : Transaction → ℕ) (n : ℕ) (t u : Transaction) (ts : List Transaction) → RiseTransactions ts → IsIn t ts → ((v : Transaction) → IsIn v ts → same_id v.id t.id ≡ false → g v ≤ f v) → n + g u ≤ f t
    → n + sum_by g (change_at ts t.id (λ v. u)) ≤ sum_by f ts
sum-changed f g n t u [] rise there others one = absurd there
sum-changed f g n t u (v ∷ vs) rise there others one =
    let both = and_parts (list_all (λ (w : Transaction). is_before v.id w.id) vs) (each_pair (λ (v w : Transaction). is_before v.id w.id) vs) rise in
    let before = sum_by-cons f v vs in
    elim (cases_Bool (same_id v.id t.id)) [
      | inl is ↦
          (let here = ap f (same-by_id (λ (w : Transaction). w.id) (v ∷ vs) rise v t (inl refl) there (same_id-equal v.id t.id is)) in
          let rest = sum-less g f vs (λ w later. others w (inr later) (behind-other v vs t.id both.0 is w later)) in
          rw is (let after = sum_by-cons g u vs in omega arith))
      | inr other ↦
          (let at : IsIn t vs = elim there [ inl e ↦ absurd (other_id v.id t.id other (ap (λ (w : Transaction). w.id) e)) | inr later ↦ later ] in
          let rest = sum-changed f g n t u vs both.1 at (λ w later. others w (inr later)) one in
          let head = others v (inl refl) other in
          rw other (let after = sum_by-cons g v (change_at vs t.id (λ w. u)) in omega arith))
    ]
