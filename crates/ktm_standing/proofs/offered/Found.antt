-- Transactions that are found by their Ids, and changed.
use Rattle.std.proofs.Common.{◌≡◌, Bool, true, List, [], ◌∷◌, Some, refl, ap, ◌∙◌, inl, inr}
use Rattle.std.proofs.lemmas.Bool.{cases_Bool, and_from, and_parts}
use Rattle.std.specs.List.{list_all}
use Rattle.ktm_base.specs.declared.id.Id.{Id}
use Rattle.ktm_world.specs.declared.object.Transaction.{Transaction}
use Rattle.ktm_world.specs.Transactions.{same_id, transaction_at, change_at}
use Rattle.ktm_courses.proofs.offered.Calls.{transaction_at-found}
use Rattle.txf_laws.proofs.offered.Elements.{list_all-at}

-- a transaction that is found by an Id is found by its own
pub found_again : (ts : List Transaction) (id : Id) (t : Transaction) → transaction_at ts id ≡ Some t → transaction_at ts t.id ≡ Some t
found_again ts id t found = ap (λ i. transaction_at ts i) (transaction_at-found ts id t found).1 ∙ found

-- a test that each transaction passes is passed by one that is found
pub found-passes : (test : Transaction → Bool) (ts : List Transaction) (id : Id) (t : Transaction) → list_all test ts ≡ true → transaction_at ts id ≡ Some t → test t ≡ true
found-passes test ts id t all found = list_all-at test ts all t (transaction_at-found ts id t found).0

-- a transaction that is found is changed alike by what makes of each transaction what is made of it
pub change_at-found : (f : Transaction → Transaction) (ts : List Transaction) (id : Id) (t : Transaction) → transaction_at ts id ≡ Some t
    → change_at ts id (λ u. f t) ≡ change_at ts id f
change_at-found f [] id t found = refl
change_at-found f (u ∷ us) id t found = elim (cases_Bool (same_id u.id id)) [
  | inl same ↦ let is : u ≡ t = (let here = rw same at found in cc) in rw same (rw is refl)
  | inr other ↦ let rest = change_at-found f us id t (rw other at found) in rw other (ap (λ ts. u ∷ ts) rest)
]

-- a test that each transaction passes, and what one is changed to, is passed by each then
pub change_at-passes : (test : Transaction → Bool) (f : Transaction → Transaction) → ((t : Transaction) → test (f t) ≡ true) → (ts : List Transaction) (id : Id) → list_all test ts ≡ true
    → list_all test (change_at ts id f) ≡ true
change_at-passes test f passes [] id all = refl
change_at-passes test f passes (t ∷ ts) id all =
    let parts = and_parts (test t) (list_all test ts) all in
    let rest = change_at-passes test f passes ts id parts.1 in
    elim (cases_Bool (same_id t.id id)) [ inl same ↦ rw same (and_from _ _ (passes t) parts.1) | inr other ↦ rw other (and_from _ _ parts.0 rest) ]
