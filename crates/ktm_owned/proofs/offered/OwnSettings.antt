-- What transactions have set, with one setting more, and without what one has set.
use Rattle.std.proofs.Common.{◌≡◌, ℕ, ◌==◌, ◌&&◌, not, Bool, true, false, is_some, List, [], ◌∷◌, length, bytes_eq, arith, Option, refl, sym, ◌∙◌, ap, subst, inl, inr, ◌⊎◌}
use Rattle.std.proofs.lemmas.Bool.{cases_Bool, ne_eqb, and_parts, and_from, or_parts, not-true, not_from_false, true≢false}
use Rattle.std.specs.List.{list_all}
use Rattle.ktm_base.specs.declared.id.Id.{Id}
use Rattle.ktm_keyed.specs.declared.keyed.Keyed.{Keyed}
use Rattle.ktm_keyed.specs.Keyed.{value_at, put, is_rising, comes_before}
use Rattle.ktm_world.specs.Keys.{Own, OwnSettings, own_settings, with_own, without_own, is_held_by_other, are_good_settings, is_good_setting}
use Rattle.ktm_world.specs.Lawful.{set_both}
use Rattle.ktm_world.specs.Transactions.{same_id}
use Rattle.ktm_keyed.proofs.KeyedLemmas.{is_rising-put, list_all-put}
use Rattle.txf_laws.specs.Elements.{IsIn, each_pair}
use Rattle.txf_laws.specs.SoundFiles.{set_by_two, set_no_key}
use Rattle.txf_laws.proofs.offered.Diamonds.{none-from, no_test}
use Rattle.txf_laws.proofs.offered.Elements.{list_all-at, list_all-from, each_pair-either}
use Rattle.txf_laws.proofs.offered.Settings.{set_both-sym}
use Rattle.txf_laws.proofs.offered.Tables.{same_id-equal, same_id-from, same_id-sym}

-- the entry of a transaction with one setting more
abbrev pub entry_with : List Own → Id → List ℕ → Option (List ℕ) → Own
entry_with own id key value = record { transaction = id; settings = put (own_settings own id) key value }

-- the first entry of a transaction
-- the settings of an entry are those of its transaction
pub own_settings-of : (own : List Own) → each_pair set_by_two own ≡ true → (o : Own) → IsIn o own → own_settings own o.transaction ≡ o.settings
own_settings-of [] once o there = absurd there
own_settings-of (p ∷ ps) once o (inl e) = rw (same_id-from p.transaction o.transaction (ap (λ (q : Own). q.transaction) e)) (ap (λ (q : Own). q.settings) e)
own_settings-of (p ∷ ps) once o (inr there) =
    let parts = and_parts (list_all (set_by_two p) ps) (each_pair set_by_two ps) once in
    rw (not-true _ (list_all-at (set_by_two p) ps parts.0 o there)) (own_settings-of ps parts.1 o there)

pub own_settings-found : (own : List Own) (id : Id) → (own_settings own id ≡ []) ⊎ ((o : Own) × IsIn o own × (o.transaction ≡ id) × (o.settings ≡ own_settings own id))
own_settings-found [] id = inl refl
own_settings-found (o ∷ os) id = elim (cases_Bool (same_id o.transaction id)) [
  | inl same ↦ inr (o, inl refl, same_id-equal o.transaction id same, rw same refl)
  | inr other ↦ elim (own_settings-found os id) [
    | inl none ↦ inl (rw other none)
    | inr (found, there, is, settings) ↦ inr (found, inr there, is, rw other settings)
  ]
]

-- what is so of each entry
pub all-with_own : (test : Own → Bool) (own : List Own) (id : Id) (key : List ℕ) (value : Option (List ℕ)) → test (entry_with own id key value) ≡ true → list_all test own ≡ true
    → list_all test (with_own own id key value) ≡ true
all-with_own test [] id key value is all = and_from _ _ is refl
all-with_own test (o ∷ os) id key value is all =
    let parts = and_parts (test o) (list_all test os) all in
    elim (cases_Bool (same_id o.transaction id)) [
      | inl same ↦ rw same (and_from _ _ (subst (λ (t : Id). test (record { transaction = t; settings = put o.settings key value }) ≡ true) (sym (same_id-equal o.transaction id same)) (rw same at is)) parts.1)
      | inr other ↦ rw other (and_from _ _ parts.0 (all-with_own test os id key value (rw other at is) parts.1))
    ]

-- the entries behind the first one are of other transactions
pub once-first : (o : Own) (os : List Own) → each_pair set_by_two (o ∷ os) ≡ true → (u : Own) → IsIn u os → same_id o.transaction u.transaction ≡ false
once-first o os once u there = not-true _ (list_all-at (set_by_two o) os (and_parts (list_all (set_by_two o) os) (each_pair set_by_two os) once).0 u there)

pub once-rest : (o : Own) (os : List Own) → each_pair set_by_two (o ∷ os) ≡ true → each_pair set_by_two os ≡ true
once-rest o os once = (and_parts (list_all (set_by_two o) os) (each_pair set_by_two os) once).1

-- what is so of each two entries
pub pairs-with_own : (test : Own → Own → Bool) (own : List Own) (id : Id) (key : List ℕ) (value : Option (List ℕ)) → each_pair set_by_two own ≡ true → each_pair test own ≡ true
    → ((u : Own) → IsIn u own → same_id u.transaction id ≡ false → (test (entry_with own id key value) u ≡ true) × (test u (entry_with own id key value) ≡ true))
    → each_pair test (with_own own id key value) ≡ true
pairs-with_own test [] id key value once pairs sides = refl
pairs-with_own test (o ∷ os) id key value once pairs sides =
    let parts = and_parts (list_all (test o) os) (each_pair test os) pairs in
    elim (cases_Bool (same_id o.transaction id)) [
      | inl same ↦
          let e = same_id-equal o.transaction id same in
          rw same (and_from _ _
          (list_all-from (test (record { transaction = o.transaction; settings = put o.settings key value })) os (λ u there.
          let other : same_id u.transaction id ≡ false = subst (λ (t : Id). same_id u.transaction t ≡ false) e (same_id-sym o.transaction u.transaction (once-first o os once u there)) in
          subst (λ (t : Id). test (record { transaction = t; settings = put o.settings key value }) u ≡ true) (sym e) (rw same at (sides u (inr there) other).0)))
          parts.1)
      | inr other ↦ rw other (and_from _ _
          (all-with_own (test o) os id key value (rw other at (sides o (inl refl) other).1) parts.0)
          (pairs-with_own test os id key value (once-rest o os once) parts.1 (λ u there differs. rw other at (sides u (inr there) differs))))
    ]

-- ---- one setting more

pub not_held : (own : List Own) (id : Id) (key : List ℕ) → is_held_by_other own id key ≡ false → (u : Own) → IsIn u own → same_id u.transaction id ≡ false → is_some (value_at u.settings key) ≡ false
not_held [] id key free u there other = absurd there
not_held (o ∷ os) id key free u (inl e) other =
    let other' : same_id o.transaction id ≡ false = subst (λ (v : Own). same_id v.transaction id ≡ false) (sym e) other in
    subst (λ (v : Own). is_some (value_at v.settings key) ≡ false) e (rw other' at (or_parts _ (is_held_by_other os id key) free).0)
not_held (o ∷ os) id key free u (inr there) other = not_held os id key (or_parts _ (is_held_by_other os id key) free).1 u there other

-- no entry of another transaction has a key of this one
pub own_settings-apart : (own : List Own) (id : Id) → each_pair set_no_key own ≡ true → (u : Own) → IsIn u own → same_id u.transaction id ≡ false → set_both (own_settings own id) u.settings ≡ false
own_settings-apart own id apart u there other = elim (own_settings-found own id) [
  | inl none ↦ rw none refl
  | inr (o, here, is, settings) ↦ subst (λ ss. set_both ss u.settings ≡ false) settings (elim (each_pair-either set_no_key own apart o u here there) [
    | inl e ↦ absurd (true≢false (sym (same_id-from u.transaction id (ap (λ (v : Own). v.transaction) (sym e) ∙ is)) ∙ other))
    | inr (inl first) ↦ not-true _ first
    | inr (inr second) ↦ set_both-sym u.settings o.settings (not-true _ second)
  ])
]

put-apart : (ss others : OwnSettings) (key : List ℕ) (value : Option (List ℕ)) → is_some (value_at others key) ≡ false → set_both ss others ≡ false → set_both (put ss key value) others ≡ false
put-apart ss others key value free apart =
    let test : Keyed (Option (List ℕ)) → Bool = λ s. not (is_some (value_at others s.key)) in
    none-from (λ (s : Keyed (Option (List ℕ))). is_some (value_at others s.key)) (put ss key value) (λ s there.
    not-true _ (list_all-at test (put ss key value)
    (list_all-put test key value (not_from_false _ free) ss (list_all-from test ss (λ r has. not_from_false _ (no_test (λ (s : Keyed (Option (List ℕ))). is_some (value_at others s.key)) r ss apart has)))) s there))

longer : {X : Type 0} (x : X) (xs : List X) → not (length (x ∷ xs) == 0) ≡ true
longer x xs = not_from_false _ (ne_eqb (length (x ∷ xs)) 0 (λ e. omega (arith, e)))

put-some : (key : List ℕ) (value : Option (List ℕ)) (ss : OwnSettings) → not (length (put ss key value) == 0) ≡ true
put-some key value [] = refl
put-some key value (x ∷ xs) = elim (cases_Bool (bytes_eq x.key key)) [
  | inl same ↦ rw same (longer (record { key = key; value = value }) xs)
  | inr other ↦ elim (cases_Bool (comes_before key x.key)) [
    | inl first ↦ rw (other, first) (longer (record { key = key; value = value }) (x ∷ xs))
    | inr later ↦ rw (other, later) (longer x (put xs key value))
  ]
]

settings-parts : (ss : OwnSettings) → are_good_settings ss ≡ true → (is_rising ss ≡ true) × (list_all is_good_setting ss ≡ true)
settings-parts ss good =
    let parts = and_parts (not (length ss == 0) && is_rising ss) (list_all is_good_setting ss) good in
    ((and_parts (not (length ss == 0)) (is_rising ss) parts.0).1, parts.1)

-- what a transaction has set rises, and is within the limits
pub own_settings-good : (own : List Own) (id : Id) → list_all (λ o. are_good_settings o.settings) own ≡ true → (is_rising (own_settings own id) ≡ true) × (list_all is_good_setting (own_settings own id) ≡ true)
own_settings-good own id good = elim (own_settings-found own id) [
  | inl none ↦ rw none (refl, refl)
  | inr (o, here, is, settings) ↦ subst (λ ss. (is_rising ss ≡ true) × (list_all is_good_setting ss ≡ true)) settings (settings-parts o.settings (list_all-at (λ (v : Own). are_good_settings v.settings) own good o here))
]

pub entry-good : (own : List Own) (id : Id) (key : List ℕ) (value : Option (List ℕ)) → list_all (λ o. are_good_settings o.settings) own ≡ true
    → is_good_setting (record { key = key; value = value }) ≡ true → are_good_settings (put (own_settings own id) key value) ≡ true
entry-good own id key value good is =
    let before = own_settings-good own id good in
    and_from _ _ (and_from _ _ (put-some key value (own_settings own id)) (is_rising-put key value (own_settings own id) before.0)) (list_all-put is_good_setting key value is (own_settings own id) before.1)

pub entry-apart : (own : List Own) (id : Id) (key : List ℕ) (value : Option (List ℕ)) → each_pair set_no_key own ≡ true → is_held_by_other own id key ≡ false
    → (u : Own) → IsIn u own → same_id u.transaction id ≡ false → (set_no_key (entry_with own id key value) u ≡ true) × (set_no_key u (entry_with own id key value) ≡ true)
entry-apart own id key value apart free u there other =
    let is = put-apart (own_settings own id) u.settings key value (not_held own id key free u there other) (own_settings-apart own id apart u there other) in
    (not_from_false _ is, not_from_false _ (set_both-sym (put (own_settings own id) key value) u.settings is))

-- ---- without what one has set

pub IsIn-without_own : (own : List Own) (id : Id) → each_pair set_by_two own ≡ true → (u : Own) → IsIn u (without_own own id) → IsIn u own × (same_id u.transaction id ≡ false)
IsIn-without_own [] id once u there = absurd there
IsIn-without_own (o ∷ os) id once u there = elim (cases_Bool (same_id o.transaction id)) [
  | inl same ↦
      let there' : IsIn u os = rw same at there in
      (inr there', subst (λ (t : Id). same_id u.transaction t ≡ false) (same_id-equal o.transaction id same) (same_id-sym o.transaction u.transaction (once-first o os once u there')))
  | inr other ↦
      let there' : IsIn u (o ∷ without_own os id) = rw other at there in
      elim there' [
        | inl e ↦ (inl e, subst (λ (v : Own). same_id v.transaction id ≡ false) e other)
        | inr later ↦ let rest = IsIn-without_own os id (once-rest o os once) u later in (inr rest.0, rest.1)
      ]
]

pub pairs-without_own : (test : Own → Own → Bool) (own : List Own) (id : Id) → each_pair set_by_two own ≡ true → each_pair test own ≡ true → each_pair test (without_own own id) ≡ true
pairs-without_own test [] id once pairs = refl
pairs-without_own test (o ∷ os) id once pairs =
    let parts = and_parts (list_all (test o) os) (each_pair test os) pairs in
    elim (cases_Bool (same_id o.transaction id)) [
      | inl same ↦ rw same parts.1
      | inr other ↦ rw other (and_from _ _
          (list_all-from (test o) (without_own os id) (λ u there. list_all-at (test o) os parts.0 u (IsIn-without_own os id (once-rest o os once) u there).0))
          (pairs-without_own test os id (once-rest o os once) parts.1))
    ]
