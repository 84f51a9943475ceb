-- The time before which no transaction is due.
use Rattle.std.proofs.Common.{◌≡◌, ℕ, ◌+◌, ◌<◌, Bool, true, false, List, [], ◌∷◌, ◌++◌, get_or, length, min, subst, take, refl, sym, ap, arith, inl, inr}
use Rattle.std.specs.Prelude.{filter, not}
use Rattle.std.specs.List.{list_all}
use Rattle.std.proofs.lemmas.Bool.{and_from, and_parts, and_right, cases_Bool}
use Rattle.std.proofs.lemmas.List.{take_more}
use Rattle.std.proofs.lemmas.List.Folds.{list_all-append}
use Rattle.ktm_base.specs.declared.id.Id.{Id}
use Rattle.ktm_world.specs.declared.object.Phase.{Phase}
use Rattle.ktm_world.specs.declared.object.Transaction.{Transaction}
use Rattle.ktm_world.specs.TransactionCalls.{is_due, may_roll_back}
use Rattle.ktm_world.specs.Transactions.{change_at, is_live, same_id}
use Rattle.ktm_tm.specs.Timeouts.{NoneDueBefore}

-- the transaction is not due before this time
abbrev pub IsEarlyBefore : ℕ → Transaction → Type 0
IsEarlyBefore time t = (clock : ℕ) → clock < time → is_due clock t ≡ false

-- with one more
pub early-push : (time due : ℕ) (ts : List Transaction) (t : Transaction) → NoneDueBefore time ts → IsEarlyBefore due t → NoneDueBefore (min time due) (ts ++ t ∷ [])
early-push time due ts t none early clock before =
    rw (list_all-append (λ (u : Transaction). not (is_due clock u)) ts (t ∷ []), none clock (omega (arith, before)), early clock (omega (arith, before))) refl

-- of so many and one more
pub early-more : (time due : ℕ) (ts : List Transaction) (i : ℕ) (d : Transaction) → NoneDueBefore time (take i ts) → i < length ts → IsEarlyBefore due (get_or ts i d) → NoneDueBefore (min time due) (take (i + 1) ts)
early-more time due ts i d none within early = subst (NoneDueBefore (min time due)) (sym (take_more ts i d within)) (early-push time due (take i ts) (get_or ts i d) none early)

-- with one that has come further
pub early-changed : (time due : ℕ) (ts : List Transaction) (id : Id) (t : Transaction) → NoneDueBefore time ts → IsEarlyBefore due t → NoneDueBefore (min time due) (change_at ts id (λ u. t))
early-changed time due ts id t none early clock before = go ts (none clock (omega (arith, before)))
  where
    one : not (is_due clock t) ≡ true
    one = ap not (early clock (omega (arith, before)))

    go : (us : List Transaction) → list_all (λ (u : Transaction). not (is_due clock u)) us ≡ true → list_all (λ (u : Transaction). not (is_due clock u)) (change_at us id (λ v. t)) ≡ true
    go [] all = refl
    go (u ∷ us) all =
        let parts = and_parts (not (is_due clock u)) (list_all (λ (v : Transaction). not (is_due clock v)) us) all in
        elim (cases_Bool (same_id u.id id)) [
          | inl same ↦ rw same (and_from _ _ one parts.1)
          | inr other ↦ rw other (and_from _ _ parts.0 (go us parts.1))
        ]

-- one that has ended is not due
ended-early : (clock : ℕ) (t : Transaction) → is_live t ≡ false → is_due clock t ≡ false
ended-early clock t over = and_right _ (may_roll_back t) (go t.phase over)
  where
    go : (phase : Phase) → is_live (record t { phase = phase }) ≡ false → may_roll_back (record t { phase = phase }) ≡ false
    go Phase.Ended over = refl
    go _ over = absurd cc

-- it is enough that it is so of the live ones
pub early-live : (time : ℕ) (ts : List Transaction) → NoneDueBefore time (filter is_live ts) → NoneDueBefore time ts
early-live time ts none clock before = go ts (none clock before)
  where
    go : (us : List Transaction) → list_all (λ (u : Transaction). not (is_due clock u)) (filter is_live us) ≡ true → list_all (λ (u : Transaction). not (is_due clock u)) us ≡ true
    go [] all = refl
    go (u ∷ us) all = elim (cases_Bool (is_live u)) [
      | inl live ↦
          let here : list_all (λ (v : Transaction). not (is_due clock v)) (u ∷ filter is_live us) ≡ true = rw live at all in
          let parts = and_parts (not (is_due clock u)) (list_all (λ (v : Transaction). not (is_due clock v)) (filter is_live us)) here in
          and_from _ _ parts.0 (go us parts.1)
      | inr over ↦ and_from _ _ (ap not (ended-early clock u over)) (go us (rw over at all))
    ]

-- of the live ones none is due
pub none-due : (clock : ℕ) (ts : List Transaction) → list_all (λ (t : Transaction). not (is_due clock t)) ts ≡ true → filter (is_due clock) (filter is_live ts) ≡ []
none-due clock [] all = refl
none-due clock (t ∷ ts) all =
    let parts = and_parts (not (is_due clock t)) (list_all (λ (u : Transaction). not (is_due clock u)) ts) all in
    let early : is_due clock t ≡ false = not-true (is_due clock t) parts.0 in
    elim (cases_Bool (is_live t)) [ inl live ↦ rw (live, early) (none-due clock ts parts.1) | inr over ↦ rw over (none-due clock ts parts.1) ]
  where
    not-true : (b : Bool) → not b ≡ true → b ≡ false
    not-true true is = absurd cc
    not-true false is = refl
