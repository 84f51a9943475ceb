-- Lemmas on older versions that are there once.
use Rattle.std.proofs.Common.{◌≡◌, ℕ, ◌+◌, ◌&&◌, ◌||◌, Bool, true, false, eqb, List, [], ◌∷◌, length, filter, find, Some, None, refl, sym, ap, ◌∙◌, inl, inr, arith}
use Rattle.std.specs.List.{list_any}
use Rattle.std.proofs.lemmas.Bool.{cases_Bool, and_from, and_parts, eqb-true, eq-eqb}
use Rattle.txf_versions.specs.declared.kept.Older.{Older}
use Rattle.txf_versions.specs.VersionsState.{comes_before, is_version, with_older, AreApart}
use Rattle.txf_versions.proofs.Tests.{any_filter-false}

or_swap : (a b c : Bool) → (a || (b || c)) ≡ (b || (a || c))
or_swap true true c = refl
or_swap true false c = refl
or_swap false b c = refl

-- ---- one more
pub twins : (f v g w : ℕ) → (eqb f g && eqb v w) ≡ (eqb g f && eqb w v)
twins f v g w =
    elim (cases_Bool (eqb f g && eqb v w)) [
      | inl same ↦
          let parts = and_parts (eqb f g) (eqb v w) same in
          same
          ∙ sym (and_from (eqb g f) (eqb w v) (eq-eqb g f (sym (eqb-true f g parts.0))) (eq-eqb w v (sym (eqb-true v w parts.1))))
      | inr differs ↦
          elim (cases_Bool (eqb g f && eqb w v)) [
            | inl same ↦
                let parts = and_parts (eqb g f) (eqb w v) same in
                absurd
                (let yes = and_from (eqb f g) (eqb v w) (eq-eqb f g (sym (eqb-true g f parts.0))) (eq-eqb v w (sym (eqb-true w v parts.1))) in cc)
            | inr other ↦ differs ∙ sym other
          ]
    ]

pub any-with : (p : Older → Bool) (older : List Older) (v : Older) → list_any p (with_older older v) ≡ (p v || list_any p older)
any-with p [] v = refl
any-with p (w ∷ ws) v =
    elim (cases_Bool (comes_before w v)) [
      | inl before ↦ rw before (ap (λ b. p w || b) (any-with p ws v) ∙ or_swap (p w) (p v) (list_any p ws))
      | inr after ↦ rw after refl
    ]

apart_from : (v w : Older) → is_version v.file v.version w ≡ false → is_version w.file w.version v ≡ false
apart_from v w differs = twins v.file v.version w.file w.version ∙ differs

-- one more that was not there
pub AreApart-with : (older : List Older) (v : Older) → AreApart older → list_any (is_version v.file v.version) older ≡ false → AreApart (with_older older v)
AreApart-with [] v apart none = (refl, tt)
AreApart-with (w ∷ ws) v apart none =
    elim (cases_Bool (is_version v.file v.version w)) [
      | inl same ↦ absurd (let some = rw same at none in cc)
      | inr differs ↦
          elim (cases_Bool (comes_before w v)) [
            | inl before ↦
                rw before
                ((
                  any-with (is_version w.file w.version) ws v ∙ ap (λ b. b || list_any (is_version w.file w.version) ws) (apart_from v w differs) ∙ apart.0,
                  AreApart-with ws v apart.1 (rw differs at none),
                ))
            | inr after ↦ rw after ((none, apart))
          ]
    ]

pub AreApart-filter : (p : Older → Bool) (older : List Older) → AreApart older → AreApart (filter p older)
AreApart-filter p [] apart = tt
AreApart-filter p (v ∷ vs) apart =
    elim (cases_Bool (p v)) [
      | inl stays ↦ rw stays ((any_filter-false p (is_version v.file v.version) vs apart.0, AreApart-filter p vs apart.1))
      | inr goes ↦ rw goes (AreApart-filter p vs apart.1)
    ]

pub length-with : (older : List Older) (v : Older) → length (with_older older v) ≡ length older + 1
length-with [] v = refl
length-with (w ∷ ws) v =
    elim (cases_Bool (comes_before w v)) [
      | inl before ↦ let rest = length-with ws v in rw before (omega (arith, rest))
      | inr after ↦ rw after (omega arith)
    ]

pub any-none_found : (file version : ℕ) (older : List Older) → find (is_version file version) older ≡ None → list_any (is_version file version) older ≡ false
any-none_found file version [] none = refl
any-none_found file version (v ∷ vs) none =
    elim (cases_Bool (is_version file version v)) [
      | inl this ↦ absurd (let some = rw this at none in cc)
      | inr other ↦ rw other (any-none_found file version vs (rw other at none))
    ]

-- ---- what is found
itself : (v : Older) → is_version v.file v.version v ≡ true
itself v = and_from (eqb v.file v.file) (eqb v.version v.version) (eq-eqb v.file v.file refl) (eq-eqb v.version v.version refl)

pub find-with_same : (older : List Older) (v : Older) → find (is_version v.file v.version) older ≡ None
    → find (is_version v.file v.version) (with_older older v) ≡ Some v
find-with_same [] v none = rw (itself v) refl
find-with_same (w ∷ ws) v none =
    elim (cases_Bool (comes_before w v)) [
      | inl before ↦
          elim (cases_Bool (is_version v.file v.version w)) [
            | inl this ↦ absurd (let some = rw this at none in cc)
            | inr other ↦ rw (before, other) (find-with_same ws v (rw other at none))
          ]
      | inr after ↦ rw (after, itself v) refl
    ]

pub find-with_other : (older : List Older) (v : Older) (file version : ℕ) → is_version file version v ≡ false
    → find (is_version file version) (with_older older v) ≡ find (is_version file version) older
find-with_other [] v file version differs = rw differs refl
find-with_other (w ∷ ws) v file version differs =
    elim (cases_Bool (comes_before w v)) [
      | inl before ↦
          elim (cases_Bool (is_version file version w)) [
            | inl this ↦ rw (before, this) refl
            | inr other ↦ rw (before, other) (find-with_other ws v file version differs)
          ]
      | inr after ↦ rw (after, differs) refl
    ]
