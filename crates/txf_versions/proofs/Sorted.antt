-- Lemmas on the older versions under their names.
use Rattle.std.proofs.Common.{◌≡◌, ℕ, ◌+◌, ◌≤◌, not, List, [], ◌∷◌, length, filter, Option, Some, None, find, refl, sym, ap, ◌∙◌, inl, inr, arith}
use Rattle.std.specs.Option.{option_map}
use Rattle.std.specs.Ordering.{is_eq, is_lt}
use Rattle.std.proofs.lemmas.Bool.{cases_Bool}
use Rattle.std.proofs.lemmas.List.Sums.{sum_by-cons}
use Rattle.std.proofs.lemmas.Option.{same_Some}
use Rattle.ktm_links.specs.declared.list.Key.{Key}
use Rattle.ktm_links.specs.Mapped.{NamedItem, name_cmp, at, key_at, put, without_name}
use Rattle.ktm_links.proofs.offered.Entries.{key_at-at}
use Rattle.ktm_links.proofs.offered.Names.{name_equal, name_same, from_is_eq}
use Rattle.txf_versions.specs.declared.kept.Older.{Older}
use Rattle.txf_versions.specs.Names.{version_bytes}
use Rattle.txf_versions.specs.Parts.{older_of, AreNamed}
use Rattle.txf_versions.specs.VersionsState.{comes_before, is_version, older_units, version_units, with_older}
use Rattle.txf_versions.proofs.NamesTold.{before-name, version_name-from, version_name-to}

-- the name of a version
abbrev pub name_of : Older → List ℕ
name_of v = version_bytes v.file v.version []

-- ---- look-ups
same_version : (e : NamedItem Older) (file version : ℕ) (q : List ℕ) → q ≡ version_bytes file version [] → e.name ≡ name_of e.value
    → is_eq (name_cmp e.name q) ≡ is_version file version e.value
same_version e file version q q_is is =
    elim (cases_Bool (is_version file version e.value)) [
      | inl this ↦
          let same : e.name ≡ q = is ∙ version_name-to file version e.value this ∙ sym q_is in
          ap (λ n. is_eq (name_cmp n q)) same ∙ ap is_eq (name_same q) ∙ sym this
      | inr other ↦
          elim (cases_Bool (is_eq (name_cmp e.name q))) [
            | inl same ↦
                let names = name_equal e.name q (from_is_eq (name_cmp e.name q) same) in
                absurd (let really = version_name-from file version e.value (sym is ∙ names ∙ q_is) in cc)
            | inr differs ↦ differs ∙ sym other
          ]
    ]

-- what stands under the name of a version is what is found of it
pub find-named : (entries : List (NamedItem Older)) (file version : ℕ) (q : List ℕ) → q ≡ version_bytes file version [] → AreNamed entries
    → option_map (λ e. e.1) (at entries q) ≡ find (is_version file version) (older_of entries)
find-named [] file version q is named = refl
find-named (e ∷ es) file version q is named =
    let same = same_version e file version q is named.0 in
    elim (cases_Bool (is_version file version e.value)) [
      | inl this ↦ rw (same, this) refl
      | inr other ↦ rw (same, other) (find-named es file version q is named.1)
    ]

no_key : (o : Option (Key × Older)) → option_map (λ (e : Key × Older). e.1) o ≡ None → option_map (λ (e : Key × Older). e.0) o ≡ None
no_key None none = refl
no_key (Some e) none = absurd (cc)

pub key_free : (entries : List (NamedItem Older)) (file version : ℕ) (q : List ℕ) → q ≡ version_bytes file version [] → AreNamed entries
    → find (is_version file version) (older_of entries) ≡ None → key_at entries q ≡ None
key_free entries file version q is named none = key_at-at entries q ∙ no_key (at entries q) (find-named entries file version q is named ∙ none)

-- ---- one more
pub AreNamed-put : (entries : List (NamedItem Older)) (e : NamedItem Older) → AreNamed entries → e.name ≡ name_of e.value → AreNamed (put entries e)
AreNamed-put [] e named is = (is, tt)
AreNamed-put (x ∷ xs) e named is =
    elim (cases_Bool (is_lt (name_cmp x.name e.name))) [
      | inl lower ↦ rw lower ((named.0, AreNamed-put xs e named.1 is))
      | inr higher ↦ rw higher ((is, named))
    ]

pub older_of-put : (entries : List (NamedItem Older)) (e : NamedItem Older) → AreNamed entries → e.name ≡ name_of e.value
    → older_of (put entries e) ≡ with_older (older_of entries) e.value
older_of-put [] e named is = refl
older_of-put (x ∷ xs) e named is =
    let before : is_lt (name_cmp x.name e.name) ≡ comes_before x.value e.value = rw (named.0, is) (before-name x.value e.value) in
    elim (cases_Bool (comes_before x.value e.value)) [
      | inl lower ↦ rw (before, lower) (ap (λ vs. x.value ∷ vs) (older_of-put xs e named.1 is))
      | inr higher ↦ rw (before, higher) refl
    ]

pub units-with : (older : List Older) (v : Older) → older_units (with_older older v) ≡ older_units older + version_units v
units-with [] v = refl
units-with (w ∷ ws) v =
    elim (cases_Bool (comes_before w v)) [
      | inl before ↦
          rw before
          (omega (arith, sum_by-cons version_units w (with_older ws v), sum_by-cons version_units w ws, units-with ws v))
      | inr after ↦ rw after (omega (arith, sum_by-cons version_units v (w ∷ ws)))
    ]

-- ---- one less
pub AreNamed-without : (entries : List (NamedItem Older)) (name : List ℕ) → AreNamed entries → AreNamed (without_name entries name)
AreNamed-without [] name named = tt
AreNamed-without (e ∷ es) name named =
    elim (cases_Bool (is_eq (name_cmp e.name name))) [
      | inl this ↦ rw this named.1
      | inr other ↦ rw other ((named.0, AreNamed-without es name named.1))
    ]

-- a version that is removed has its units no more
pub units-removed : (entries : List (NamedItem Older)) (q : List ℕ) (v : Older) → Some v ≡ option_map (λ e. e.1) (at entries q)
    → older_units (older_of (without_name entries q)) + version_units v ≡ older_units (older_of entries)
units-removed [] q v there = absurd (cc)
units-removed (e ∷ es) q v there =
    elim (cases_Bool (is_eq (name_cmp e.name q))) [
      | inl this ↦
          let value : v ≡ e.value = same_Some v e.value (rw this at there) in
          rw (this, value) (omega (arith, sum_by-cons version_units e.value (older_of es)))
      | inr other ↦
          let rest = units-removed es q v (rw other at there) in
          rw other
          (omega (arith, sum_by-cons version_units e.value (older_of es), sum_by-cons version_units e.value (older_of (without_name es q)), rest))
    ]

-- a removal takes at most one away
pub length-removed : (entries : List (NamedItem Older)) (q : List ℕ) → length (older_of entries) ≤ length (older_of (without_name entries q)) + 1
length-removed [] q = omega arith
length-removed (e ∷ es) q =
    elim (cases_Bool (is_eq (name_cmp e.name q))) [
      | inl this ↦ rw this (omega arith)
      | inr other ↦ let rest = length-removed es q in rw other (omega (arith, rest))
    ]

-- a version that is nowhere is not filtered
filter-none : (entries : List (NamedItem Older)) (file version : ℕ) (q : List ℕ) → q ≡ version_bytes file version [] → AreNamed entries → at entries q ≡ None
    → older_of entries ≡ filter (λ v. not (is_version file version v)) (older_of entries)
filter-none [] file version q is named none = refl
filter-none (e ∷ es) file version q is named none =
    let same = same_version e file version q is named.0 in
    elim (cases_Bool (is_version file version e.value)) [
      | inl this ↦ absurd (let some = rw (same, this) at none in cc)
      | inr other ↦ rw other (ap (λ vs. e.value ∷ vs) (filter-none es file version q is named.1 (rw (same, other) at none)))
    ]

-- without its name the versions are without the version
pub older_of-without : (entries : List (NamedItem Older)) (file version : ℕ) (q : List ℕ) → q ≡ version_bytes file version [] → AreNamed entries
    → at (without_name entries q) q ≡ None
    → older_of (without_name entries q) ≡ filter (λ v. not (is_version file version v)) (older_of entries)
older_of-without [] file version q is named gone = refl
older_of-without (e ∷ es) file version q is named gone =
    let same = same_version e file version q is named.0 in
    elim (cases_Bool (is_version file version e.value)) [
      | inl this ↦ rw (same, this) (filter-none es file version q is named.1 (rw (same, this) at gone))
      | inr other ↦ rw (same, other) (ap (λ vs. e.value ∷ vs) (older_of-without es file version q is named.1 (rw (same, other, same, other) at gone)))
    ]

-- what is nowhere is not removed
pub removed-none : (entries : List (NamedItem Older)) (q : List ℕ) → None ≡ option_map (λ e. e.1) (at entries q) → without_name entries q ≡ entries
removed-none [] q none = refl
removed-none (e ∷ es) q none =
    elim (cases_Bool (is_eq (name_cmp e.name q))) [
      | inl this ↦ absurd (let some = rw this at none in cc)
      | inr other ↦ rw other (ap (λ l. e ∷ l) (removed-none es q (rw other at none)))
    ]
