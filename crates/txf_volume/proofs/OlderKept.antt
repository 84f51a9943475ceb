-- The bytes of older versions that are kept are those of the versions that were first opened, each once.
use Rattle.std.proofs.Common.{◌≡◌, ℕ, ◌+◌, ◌==◌, ◌&&◌, not, Bool, true, false, filter, find, map, is_some, List, [], ◌∷◌, sum_by, Option, Some, None, refl, sym, ◌∙◌, ap, subst, arith, inl, inr}
use Rattle.std.proofs.lemmas.Bool.{cases_Bool, and_parts, and_from, eq-eqb, eqb-true, not-true, or_cases, true≢false, false_from_ne_true}
use Rattle.std.proofs.lemmas.List.Sums.{sum_by-cons}
use Rattle.std.proofs.lemmas.Option.{same_Some}
use Rattle.std.specs.List.{list_any}
use Rattle.ktm_world.specs.Files.{FirstOpen}
use Rattle.ktm_world.specs.FileUses.{same_version}
use Rattle.ktm_world.specs.Tree.{units_of}
use Rattle.txf_versions.specs.VersionsState.{AreAllHeld, AreApart, AreHeld, fixes, is_held, is_version, version_units as kept_units}
use Rattle.txf_versions.specs.declared.kept.Older.{Older}
use Rattle.txf_versions.specs.declared.opened.Opened.{Opened}
use Rattle.txf_laws.specs.Elements.{IsIn}
use Rattle.txf_laws.proofs.offered.Elements.{IsIn-filter, list_any-at, list_any-from}
use Rattle.txf_laws.proofs.offered.OlderVersions.{has_older, older-cons, older_units, version_units}

-- ---- elements

held-in : (opens : List Opened) (older : List Older) → AreAllHeld opens older → (v : Older) → IsIn v older → is_held opens v ≡ true
held-in opens [] all v there = absurd there
held-in opens (w ∷ ws) all v (inl e) = subst (λ u. is_held opens u ≡ true) e all.0
held-in opens (w ∷ ws) all v (inr there) = held-in opens ws all.1 v there

held-from : (opens : List Opened) (older : List Older) → ((v : Older) → IsIn v older → is_held opens v ≡ true) → AreAllHeld opens older
held-from opens [] each = tt
held-from opens (w ∷ ws) each = (each w (inl refl), held-from opens ws (λ v there. each v (inr there)))

-- the versions but this one
abbrev but : ℕ → ℕ → List Older → List Older
but file version older = filter (λ v. not (is_version file version v)) older

apart-but : (file version : ℕ) (older : List Older) → AreApart older → AreApart (but file version older)
apart-but file version [] apart = tt
apart-but file version (v ∷ vs) apart = elim (cases_Bool (is_version file version v)) [
  | inl it ↦ rw it (apart-but file version vs apart.1)
  | inr other ↦ rw other (
    false_from_ne_true _ (λ any.
        let again = list_any-at (is_version v.file v.version) (but file version vs) any in
        true≢false (sym (list_any-from (is_version v.file v.version) vs again.0 (IsIn-filter (λ u. not (is_version file version u)) vs again.0 again.1).0 again.2) ∙ apart.0)),
    apart-but file version vs apart.1,
  )
]

find-some : (file version : ℕ) (older : List Older) (v : Older) → IsIn v older → is_version file version v ≡ true → is_some (find (is_version file version) older) ≡ true
find-some file version [] v there it = absurd there
find-some file version (w ∷ ws) v there it = elim (cases_Bool (is_version file version w)) [
  | inl here ↦ rw here refl
  | inr other ↦ rw other (elim there [
    | inl e ↦ absurd (true≢false (sym (subst (λ u. is_version file version u ≡ true) (sym e) it) ∙ other))
    | inr later ↦ find-some file version ws v later it
  ])
]

-- versions that are not one another
find-but : (file version f v : ℕ) (older : List Older) → (file == f && version == v) ≡ false → find (is_version f v) (but file version older) ≡ find (is_version f v) older
find-but file version f v [] other = refl
find-but file version f v (w ∷ ws) other = elim (cases_Bool (is_version file version w)) [
  | inl it ↦
      let parts = and_parts (w.file == file) (w.version == version) it in
      let apart : is_version f v w ≡ false = (λ i. eqb-true _ _ parts.0 i == f && eqb-true _ _ parts.1 i == v) ∙ other in
      rw (it, apart) (find-but file version f v ws other)
  | inr not_it ↦ elim (cases_Bool (is_version f v w)) [
    | inl here ↦ rw (not_it, here) refl
    | inr later ↦ rw (not_it, later) (find-but file version f v ws other)
  ]
]

-- a version by itself, and the others
but-none : (file version : ℕ) (older : List Older) → list_any (is_version file version) older ≡ false → but file version older ≡ older
but-none file version [] none = refl
but-none file version (v ∷ vs) none = elim (cases_Bool (is_version file version v)) [
  | inl it ↦ absurd (true≢false (rw it at none))
  | inr other ↦ rw other (ap (λ us. v ∷ us) (but-none file version vs (rw other at none)))
]

sum-but : (file version : ℕ) (older : List Older) (v : Older) → AreApart older → find (is_version file version) older ≡ Some v → sum_by kept_units older ≡ kept_units v + sum_by kept_units (but file version older)
sum-but file version [] v apart found = absurd (true≢false (sym (ap is_some found)))
sum-but file version (w ∷ ws) v apart found =
    let all = sum_by-cons kept_units w ws in
    elim (cases_Bool (is_version file version w)) [
      | inl it ↦
          let parts = and_parts (w.file == file) (w.version == version) it in
          let e = ap kept_units (same_Some w v (rw it at found)) in
          let none : list_any (is_version file version) ws ≡ false = (λ i. list_any (is_version (sym (eqb-true _ _ parts.0) i) (sym (eqb-true _ _ parts.1) i)) ws) ∙ apart.0 in
          let rest = ap (sum_by kept_units) (but-none file version ws none) in
          rw it (omega arith)
      | inr other ↦
          let rest = sum-but file version ws v apart.1 (rw other at found) in
          let one = sum_by-cons kept_units w (but file version ws) in
          rw other (omega arith)
    ]

-- ---- all of them

module _ (first : Opened → FirstOpen) (file_is : (o : Opened) → (first o).file ≡ o.file) (version_is : (o : Opened) → (first o).version ≡ o.version) (old : FirstOpen → Bool) where
  same-is : (o p : Opened) → same_version (first o) (first p) ≡ (o.file == p.file && o.version == p.version)
  same-is o p = λ i. (file_is o i == file_is p i) && (version_is o i == version_is p i)

  -- some first open of them is of the same version
  has-same : (os : List Opened) (o : Opened) → has_older old (map first os) (first o) ≡ true → (p : Opened) × IsIn p os × ((o.file == p.file && o.version == p.version) ≡ true)
  has-same [] o has = absurd (true≢false (sym has))
  has-same (p ∷ ps) o has = elim (cases_Bool (old (first p) && same_version (first o) (first p))) [
    | inl it ↦ (p, inl refl, sym (same-is o p) ∙ (and_parts (old (first p)) (same_version (first o) (first p)) it).1)
    | inr other ↦ let rest = has-same ps o (rw other at has) in (rest.0, inr rest.1, rest.2)
  ]

  no-same : (os : List Opened) (o : Opened) → has_older old (map first os) (first o) ≡ false → (p : Opened) → IsIn p os → old (first p) ≡ true → (o.file == p.file && o.version == p.version) ≡ false
  no-same [] o none p there is = absurd there
  no-same (q ∷ qs) o none p there is = elim (cases_Bool (old (first q) && same_version (first o) (first q))) [
    | inl it ↦ absurd (true≢false (rw it at none))
    | inr other ↦ elim there [
      | inl e ↦
          let other' : (old (first p) && same_version (first o) (first p)) ≡ false = subst (λ (r : Opened). (old (first r) && same_version (first o) (first r)) ≡ false) e other in
          sym (same-is o p) ∙ (rw is at other')
      | inr later ↦ no-same qs o (rw other at none) p later is
    ]
  ]

  -- what is kept of these first opens
  pub record IsKept (older : List Older) (o : Opened) : Type 0 where
    pub kept : is_some (find (is_version o.file o.version) older) ≡ old (first o)
    pub bytes : (v : Older) → find (is_version o.file o.version) older ≡ Some v → (first o).bytes ≡ v.bytes

  held-rest : (o : Opened) (os : List Opened) (v : Older) → is_held (o ∷ os) v ≡ true → (fixes v.file v.version o ≡ true → is_held os v ≡ true) → is_held os v ≡ true
  held-rest o os v held by_it = elim (or_cases (fixes v.file v.version o) (is_held os v) held) [ inl it ↦ by_it it | inr rest ↦ rest ]

  pub older-kept : (os : List Opened) (older : List Older) → AreHeld os older → ((o : Opened) → IsIn o os → IsKept older o) → older_units old (map first os) ≡ sum_by kept_units older
  older-kept [] [] held kept = refl
  older-kept [] (v ∷ vs) held kept = absurd (true≢false (sym held.held.0))
  older-kept (o ∷ os) older held kept =
      older-cons old (first o) (map first os) ∙ elim (cases_Bool (old (first o))) [
        | inr young ↦ rw young (
            let rest = older-kept os older (record {
              held = held-from os older (λ v there. held-rest o os v (held-in (o ∷ os) older held.held v there) (λ it. absurd (true≢false (sym (of-it v there it) ∙ (kept o (inl refl)).kept ∙ young))));
              apart = held.apart;
            }) (λ p there. kept p (inr there)) in omega arith)
        | inl is ↦ elim (cases_Bool (has_older old (map first os) (first o))) [
          | inl again ↦ rw (is, again) (
              let same = has-same os o again in
              let rest = older-kept os older (record {
                held = held-from os older (λ v there. held-rest o os v (held-in (o ∷ os) older held.held v there) (λ it. by-other same.0 same.1 same.2 v it));
                apart = held.apart;
              }) (λ p there. kept p (inr there)) in omega arith)
          | inr once ↦ rw (is, once) (one is once (find (is_version o.file o.version) older) refl (older-kept os (but o.file o.version older) (record {
            held = held-from os (but o.file o.version older) (λ v there.
                let has = IsIn-filter (λ u. not (is_version o.file o.version u)) older v there in
                held-rest o os v (held-in (o ∷ os) older held.held v has.0) (λ it. absurd (true≢false (sym (turned v it) ∙ not-true _ has.1))));
            apart = apart-but o.file o.version older held.apart;
          })))
        ]
      ]
    where
      -- it is the version that it fixes
      turned : (v : Older) → fixes v.file v.version o ≡ true → is_version o.file o.version v ≡ true
      turned v it = let parts = and_parts (o.file == v.file) (o.version == v.version) it in and_from _ _ (eq-eqb _ _ (sym (eqb-true _ _ parts.0))) (eq-eqb _ _ (sym (eqb-true _ _ parts.1)))

      of-it : (v : Older) → IsIn v older → fixes v.file v.version o ≡ true → is_some (find (is_version o.file o.version) older) ≡ true
      of-it v there it = find-some o.file o.version older v there (turned v it)

      -- another first open fixes it too
      by-other : (p : Opened) → IsIn p os → (o.file == p.file && o.version == p.version) ≡ true → (v : Older) → fixes v.file v.version o ≡ true → is_held os v ≡ true
      by-other p there same v it =
          let a = and_parts (o.file == p.file) (o.version == p.version) same in
          let b = and_parts (o.file == v.file) (o.version == v.version) it in
          list_any-from (fixes v.file v.version) os p there (and_from _ _ (eq-eqb _ _ (sym (eqb-true _ _ a.0) ∙ eqb-true _ _ b.0)) (eq-eqb _ _ (sym (eqb-true _ _ a.1) ∙ eqb-true _ _ b.1)))

      -- no other first open is of it
      one : old (first o) ≡ true → has_older old (map first os) (first o) ≡ false → (found : Option Older) → find (is_version o.file o.version) older ≡ found
          → (((p : Opened) → IsIn p os → IsKept (but o.file o.version older) p) → older_units old (map first os) ≡ sum_by kept_units (but o.file o.version older))
          → version_units (first o) + older_units old (map first os) ≡ sum_by kept_units older
      one is once None none rest = absurd (true≢false (sym is ∙ sym (kept o (inl refl)).kept ∙ ap is_some none))
      one is once (Some v) found rest =
          let all = sum-but o.file o.version older v held.apart found in
          let bytes = ap units_of ((kept o (inl refl)).bytes v found) in
          let others = rest (λ p there.
          let its = kept p (inr there) in
          let apart : (o.file == p.file && o.version == p.version) ≡ false = differs p there its in
          record { kept = ap is_some (find-but o.file o.version p.file p.version older apart) ∙ its.kept; bytes = λ u at. its.bytes u (sym (find-but o.file o.version p.file p.version older apart) ∙ at) }) in
          omega arith
        where
          differs : (p : Opened) → IsIn p os → IsKept older p → (o.file == p.file && o.version == p.version) ≡ false
          differs p there its = false_from_ne_true _ (λ same.
              let parts = and_parts (o.file == p.file) (o.version == p.version) same in
              let old_too : old (first p) ≡ true = sym its.kept ∙ (λ i. is_some (find (is_version (sym (eqb-true _ _ parts.0) i) (sym (eqb-true _ _ parts.1) i)) older)) ∙ ap is_some found in
              true≢false (sym same ∙ no-same os o once p there old_too))
