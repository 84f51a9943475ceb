-- Transactions that are there and undecided, after one is changed or added.
use Rattle.std.proofs.Common.{◌≡◌, Bool, true, false, List, [], ◌∷◌, ◌++◌, Some, refl, sym, ◌∙◌, ap, subst, inl, inr}
use Rattle.std.proofs.lemmas.Bool.{cases_Bool, true≢false}
use Rattle.std.proofs.lemmas.Option.{none-some, same_Some}
use Rattle.ktm_base.specs.declared.id.Id.{Id}
use Rattle.ktm_world.specs.declared.object.Transaction.{Transaction}
use Rattle.ktm_world.specs.declared.object.TransactionOutcome.{TransactionOutcome}
use Rattle.ktm_world.specs.Transactions.{same_id, transaction_at, change_at, is_undecided, is_committed, is_aborted}
use Rattle.txf_laws.specs.SoundFiles.{is_undecided_in}
use Rattle.txf_laws.proofs.offered.Tables.{same_id-equal}

-- the transaction that an Id leads to has it
pub transaction_at-id : (ts : List Transaction) (id : Id) (t : Transaction) → transaction_at ts id ≡ Some t → t.id ≡ id
transaction_at-id [] id t found = absurd (none-some t found)
transaction_at-id (u ∷ us) id t found = elim (cases_Bool (same_id u.id id)) [
  | inl same ↦ let e : u ≡ t = same_Some u t (rw same at found) in ap (λ (r : Transaction). r.id) (sym e) ∙ same_id-equal u.id id same
  | inr other ↦ transaction_at-id us id t (rw other at found)
]

-- a transaction with neither outcome is undecided
pub undecided-from : (t : Transaction) → is_committed t ≡ false → is_aborted t ≡ false → is_undecided t ≡ true
undecided-from t committed aborted = go t.outcome refl
  where
    go : (o : TransactionOutcome) → t.outcome ≡ o → is_undecided t ≡ true
    go TransactionOutcome.Undetermined e = ap (λ o. elim o as (λ _. Bool) [ TransactionOutcome.Undetermined ↦ true | TransactionOutcome.Committed ↦ false | TransactionOutcome.Aborted ↦ false ]) e
    go TransactionOutcome.Committed e = absurd (true≢false (sym (ap (λ o. elim o as (λ _. Bool) [ TransactionOutcome.Undetermined ↦ false | TransactionOutcome.Committed ↦ true | TransactionOutcome.Aborted ↦ false ]) e) ∙ committed))
    go TransactionOutcome.Aborted e = absurd (true≢false (sym (ap (λ o. elim o as (λ _. Bool) [ TransactionOutcome.Undetermined ↦ false | TransactionOutcome.Committed ↦ false | TransactionOutcome.Aborted ↦ true ]) e) ∙ aborted))

-- another transaction is changed
pub undecided-other : (ts : List Transaction) (u : Transaction) (id : Id) → same_id u.id id ≡ false → is_undecided_in ts id ≡ true → is_undecided_in (change_at ts u.id (λ t. u)) id ≡ true
undecided-other [] u id other is = is
undecided-other (t ∷ ts) u id other is = elim (cases_Bool (same_id t.id u.id)) [
  | inl same ↦
      let differs : same_id t.id id ≡ false = subst (λ (i : Id). same_id i id ≡ false) (sym (same_id-equal t.id u.id same)) other in
      rw (same, other) (rw differs at is)
  | inr not_u ↦ elim (cases_Bool (same_id t.id id)) [
    | inl here ↦ rw (not_u, here) (rw here at is)
    | inr later ↦ rw (not_u, later) (undecided-other ts u id other (rw later at is))
  ]
]

-- the transaction itself is changed, and undecided then
pub undecided-itself : (ts : List Transaction) (u : Transaction) (id : Id) → same_id u.id id ≡ true → is_undecided u ≡ true → is_undecided_in ts id ≡ true
    → is_undecided_in (change_at ts u.id (λ t. u)) id ≡ true
undecided-itself [] u id same undecided is = is
undecided-itself (t ∷ ts) u id same undecided is = elim (cases_Bool (same_id t.id u.id)) [
  | inl here ↦ rw (here, same) undecided
  | inr other ↦
      let differs : same_id t.id id ≡ false = subst (λ (i : Id). same_id t.id i ≡ false) (same_id-equal u.id id same) other in
      rw (other, differs) (undecided-itself ts u id same undecided (rw differs at is))
]

-- a transaction is added
pub undecided-added : (ts us : List Transaction) (id : Id) → is_undecided_in ts id ≡ true → is_undecided_in (ts ++ us) id ≡ true
undecided-added [] us id is = absurd (true≢false (sym is))
undecided-added (t ∷ ts) us id is = elim (cases_Bool (same_id t.id id)) [
  | inl here ↦ rw here (rw here at is)
  | inr later ↦ rw later (undecided-added ts us id (rw later at is))
]
