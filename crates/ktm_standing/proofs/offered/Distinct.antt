-- Transactions that stand by rising Id: no two have the same one, and each is found by its own.
use Rattle.std.proofs.Common.{◌≡◌, ◌&&◌, true, false, List, [], ◌∷◌, Some, refl, sym, ◌∙◌, ap, subst, inl, inr}
use Rattle.std.proofs.lemmas.Bool.{cases_Bool, and_parts, or_from, or_parts}
use Rattle.std.specs.List.{AllByRecursion, list_all, list_any}
use Rattle.ktm_base.specs.declared.id.Id.{Id}
use Rattle.ktm_world.specs.declared.object.Transaction.{Transaction}
use Rattle.ktm_world.specs.Durable.{is_before}
use Rattle.ktm_world.specs.Transactions.{same_id, transaction_at, change_at}
use Rattle.txf_laws.specs.Elements.{each_pair}
use Rattle.txf_laws.proofs.offered.Tables.{before_other, same_id-equal, same_id-from, same_id-sym}

-- they stand by rising Id
abbrev pub Rise : List Transaction → Type 0
Rise ts = each_pair (λ (t u : Transaction). is_before t.id u.id) ts ≡ true

-- ---- no two have the same Id

before-apart : (a b : Id) → is_before a b ≡ true → same_id b a ≡ false
before-apart a b first = elim (cases_Bool (same_id b a)) [
  | inl same ↦ absurd (before_other a b first (sym (same_id-equal b a same)))
  | inr other ↦ other
]

none-behind : (a : Id) (ts : List Transaction) → list_all (λ (u : Transaction). is_before a u.id) ts ≡ true → list_any (λ u. same_id u.id a) ts ≡ false
none-behind a [] all = refl
none-behind a (t ∷ ts) all =
    let parts = and_parts (is_before a t.id) (list_all (λ (u : Transaction). is_before a u.id) ts) all in
    or_from _ _ (before-apart a t.id parts.0) (none-behind a ts parts.1)

-- none behind the first one has its Id
pub rise-first : (t : Transaction) (ts : List Transaction) → Rise (t ∷ ts) → list_any (λ u. same_id u.id t.id) ts ≡ false
rise-first t ts rise = none-behind t.id ts (and_parts (list_all (λ (u : Transaction). is_before t.id u.id) ts) (each_pair (λ (t u : Transaction). is_before t.id u.id) ts) rise).0

pub rise-rest : (t : Transaction) (ts : List Transaction) → Rise (t ∷ ts) → Rise ts
rise-rest t ts rise = (and_parts (list_all (λ (u : Transaction). is_before t.id u.id) ts) (each_pair (λ (t u : Transaction). is_before t.id u.id) ts) rise).1

-- ---- they go on to rise

-- one that is changed keeps its Id
behind-changed : (f : Transaction → Transaction) (a : Id) (ts : List Transaction) (id : Id) → ((t : Transaction) → same_id t.id id ≡ true → (f t).id ≡ id)
    → list_all (λ (u : Transaction). is_before a u.id) (change_at ts id f) ≡ list_all (λ (u : Transaction). is_before a u.id) ts
behind-changed f a [] id keeps = refl
behind-changed f a (t ∷ ts) id keeps =
    let rest = behind-changed f a ts id keeps in
    elim (cases_Bool (same_id t.id id)) [
      | inl same ↦ rw same (ap (λ i. is_before a i && list_all (λ (u : Transaction). is_before a u.id) ts) (keeps t same ∙ sym (same_id-equal t.id id same)))
      | inr other ↦ rw other (ap (λ b. is_before a t.id && b) rest)
    ]

rise-kept : (f : Transaction → Transaction) (ts : List Transaction) (id : Id) → ((t : Transaction) → same_id t.id id ≡ true → (f t).id ≡ id)
    → each_pair (λ (t u : Transaction). is_before t.id u.id) (change_at ts id f) ≡ each_pair (λ (t u : Transaction). is_before t.id u.id) ts
rise-kept f [] id keeps = refl
rise-kept f (t ∷ ts) id keeps =
    let rest = rise-kept f ts id keeps in
    let here = behind-changed f t.id ts id keeps in
    elim (cases_Bool (same_id t.id id)) [
      | inl same ↦ rw same (ap (λ i. list_all (λ (u : Transaction). is_before i u.id) ts && each_pair (λ (t u : Transaction). is_before t.id u.id) ts) (keeps t same ∙ sym (same_id-equal t.id id same)))
      | inr other ↦ rw other (ap (λ b. b && each_pair (λ (t u : Transaction). is_before t.id u.id) (change_at ts id f)) here
          ∙ ap (λ b. list_all (λ (u : Transaction). is_before t.id u.id) ts && b) rest)
    ]

pub rise-changed : (f : Transaction → Transaction) (ts : List Transaction) (id : Id) → ((t : Transaction) → same_id t.id id ≡ true → (f t).id ≡ id) → Rise ts → Rise (change_at ts id f)
rise-changed f ts id keeps rise = rise-kept f ts id keeps ∙ rise

-- ---- each is found by its Id

-- one that is changed, and keeps its Id, is found by no other
found-changed : (f : Transaction → Transaction) (ts : List Transaction) (id a : Id) → ((t : Transaction) → same_id t.id id ≡ true → (f t).id ≡ id) → same_id id a ≡ false → transaction_at (change_at ts id f) a ≡ transaction_at ts a
found-changed f [] id a keeps other = refl
found-changed f (t ∷ ts) id a keeps other =
    let rest = found-changed f ts id a keeps other in
    elim (cases_Bool (same_id t.id id)) [
      | inl same ↦
          (let not_it : same_id t.id a ≡ false = subst (λ (i : Id). same_id i a ≡ false) (sym (same_id-equal t.id id same)) other in
          let not_then : same_id (f t).id a ≡ false = subst (λ (i : Id). same_id i a ≡ false) (sym (keeps t same)) other in
          rw same (rw not_then (rw not_it refl)))
      | inr not_same ↦ rw not_same (elim (cases_Bool (same_id t.id a)) [ inl is ↦ rw is refl | inr is_not ↦ rw is_not rest ])
    ]

-- each of these is found among those
abbrev pub AreFound : List Transaction → List Transaction → Type 0
AreFound all ts = AllByRecursion (λ t. transaction_at all t.id ≡ Some t) ts

-- they are found behind one that has another Id than each
found-behind : (t : Transaction) (all ts : List Transaction) → list_any (λ u. same_id u.id t.id) ts ≡ false → AreFound all ts → AreFound (t ∷ all) ts
found-behind t all [] none found = tt
found-behind t all (u ∷ us) none found =
    let parts = or_parts (same_id u.id t.id) (list_any (λ u. same_id u.id t.id) us) none in
    let other = same_id-sym u.id t.id parts.0 in
    let here = found.0 in
    (rw other here, found-behind t all us parts.1 found.1)

pub rise-found : (ts : List Transaction) → Rise ts → AreFound ts ts
rise-found [] rise = tt
rise-found (t ∷ ts) rise = let same = same_id-from t.id t.id refl in (rw same refl, found-behind t ts ts (rise-first t ts rise) (rise-found ts (rise-rest t ts rise)))

-- once one is changed, and keeps its Id, those are found that have other Ids
pub found-once_changed : (f : Transaction → Transaction) (all ts : List Transaction) (id : Id) → ((t : Transaction) → same_id t.id id ≡ true → (f t).id ≡ id) → list_any (λ u. same_id u.id id) ts ≡ false → AreFound all ts
    → AreFound (change_at all id f) ts
found-once_changed f all [] id keeps none found = tt
found-once_changed f all (u ∷ us) id keeps none found =
    let parts = or_parts (same_id u.id id) (list_any (λ u. same_id u.id id) us) none in
    (found-changed f all id u.id keeps (same_id-sym u.id id parts.0) ∙ found.0, found-once_changed f all us id keeps parts.1 found.1)
