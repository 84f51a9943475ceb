-- Parts of which one at most is of a kind.
use Rattle.std.proofs.Common.{◌≡◌, ℕ, suc, ◌+◌, ◌<◌, ◌≤◌, not, Bool, true, false, List, [], ◌∷◌, ◌++◌, Option, Some, None, zero, length, take, drop, map, find, set, get_or, cond, add-one, refl, sym, ◌∙◌, ap, arith, inl, inr}
use Rattle.std.specs.List.{position, position_or_len, prefix_len}
use Rattle.std.proofs.lemmas.Bool.{cases_Bool, or_parts, true≢false}
use Rattle.std.proofs.lemmas.List.{append-nil}
use Rattle.std.proofs.lemmas.List.Folds.{find_at}
use Rattle.std.proofs.lemmas.Option.{slice_get-get_or, slice_get_past}
use Rattle.std.specs.Prelude.{if◌then◌else◌, slice_get}
use Rattle.ktm_world.specs.declared.event.DonePart.{DonePart}
use Rattle.ktm_world.specs.declared.event.Part.{Part}
use Rattle.ktm_world.specs.declared.event.Part.TheVariants.{Enlistment, Changes, Settings}
use Rattle.ktm_world.specs.declared.recorded.RecordedPart.{RecordedPart}
use Rattle.ktm_world.specs.Durable.{changes_in, is_part_of, settings_in}
use Rattle.txf_laws.proofs.offered.Sums.{count-cons}
use Rattle.txf_laws.proofs.offered.Parts.{gathered, gathered-none, is_among, count_among}
use Rattle.ktm_waiting.proofs.Placing.{first-found, first-none}

counted : (test : Part → Bool) (p : RecordedPart) (ps : List RecordedPart) → count_among test (p ∷ ps) ≡ cond (test p.part) 1 0 + count_among test ps
counted test p ps = count-cons (λ (q : RecordedPart). test q.part) p ps

counts : (test : Part → Bool) (p : RecordedPart) → test p.part ≡ true → ◌≡◌ {A = ℕ} (cond (test p.part) 1 0) 1
counts test p is = rw is refl

-- where there is one already, no other is of the kind
none-among : (test : Part → Bool) (ps : List RecordedPart) → count_among test ps ≡ 0 → is_among test ps ≡ false
none-among test [] none = refl
none-among test (p ∷ ps) none = elim (cases_Bool (test p.part)) [
  | inl is ↦ absurd (let all = counted test p ps in let one = counts test p is in omega arith)
  | inr other ↦ rw other (none-among test ps (let all = counted test p ps in omega arith))
]

module _ {X : Type 0} (g : Part → List X) (test : Part → Bool) (empty : (part : Part) → test part ≡ false → g part ≡ []) where
  -- what the part has, if there is one
  abbrev pub had : Option RecordedPart → List X
  had None = []
  had (Some p) = g p.part

  pub gathered-one : (ps : List RecordedPart) → count_among test ps ≤ 1 → gathered g ps ≡ had (find (λ (p : RecordedPart). test p.part) ps)
  gathered-one [] few = refl
  gathered-one (p ∷ ps) few = elim (cases_Bool (test p.part)) [
    | inl is ↦
        let all = counted test p ps in let one = counts test p is in
        let none : gathered g ps ≡ [] = gathered-none g test empty ps (none-among test ps (omega arith)) in
        rw is (ap (λ xs. g p.part ++ xs) none ∙ append-nil (g p.part))
    | inr other ↦
        let all = counted test p ps in
        rw (other, empty p.part other) (gathered-one ps (omega arith))
  ]

-- each part of the kind has this in place of what it had
abbrev pub replaced : (Part → Bool) → Part → RecordedPart → RecordedPart
replaced test part p = if test p.part then record p { part = part } else p

none-replaced : (test : Part → Bool) (part : Part) (ps : List RecordedPart) → is_among test ps ≡ false → map (replaced test part) ps ≡ ps
none-replaced test part [] none = refl
none-replaced test part (p ∷ ps) none =
    let parts = or_parts (test p.part) (is_among test ps) none in
    rw parts.0 (ap (λ l. p ∷ l) (none-replaced test part ps parts.1))

one-replaced : (test : Part → Bool) (part : Part) (ps : List RecordedPart) (d : RecordedPart) → count_among test ps ≤ 1 → position_or_len (λ (p : RecordedPart). test p.part) ps < length ps
    → map (replaced test part) ps ≡ set ps (position_or_len (λ (p : RecordedPart). test p.part) ps) (record (get_or ps (position_or_len (λ (p : RecordedPart). test p.part) ps) d) { part = part })
one-replaced test part [] d few within = absurd (omega arith)
one-replaced test part (p ∷ ps) d few within = elim (cases_Bool (test p.part)) [
  | inl is ↦
      let all = counted test p ps in let one = counts test p is in
      rw is (ap (λ l. record p { part = part } ∷ l) (none-replaced test part ps (none-among test ps (omega arith))))
  | inr other ↦
      let all = counted test p ps in
      let more : 1 + prefix_len (λ (q : RecordedPart). not (test q.part)) ps ≡ suc (prefix_len (λ (q : RecordedPart). not (test q.part)) ps) = omega arith in
      let less : position_or_len (λ (q : RecordedPart). test q.part) ps < length ps = let within' = rw (other, more) at within in omega arith in
      rw (other, more) (ap (λ l. p ∷ l) (one-replaced test part ps d (omega arith) less))
]

-- at the index of the one of the kind
pub record IsReplaced (test : Part → Bool) (part : Part) (ps : List RecordedPart) (i : ℕ) : Type 0 where
  pub within : i < length ps
  pub left : (d : RecordedPart) → map (replaced test part) ps ≡ set ps i (record (get_or ps i d) { part = part })
  pub found : (d : RecordedPart) → find (λ (p : RecordedPart). test p.part) ps ≡ Some (get_or ps i d)

pub replaced-at : (test : Part → Bool) (part : Part) (ps : List RecordedPart) (i : ℕ) → count_among test ps ≤ 1 → Some i ≡ position (λ (p : RecordedPart). test p.part) ps → IsReplaced test part ps i
replaced-at test part ps i few found =
    let is = first-found (λ (p : RecordedPart). test p.part) ps i found in
    let within : i < length ps = omega (arith, is.0, is.1) in
    record {
      within = within;
      left = λ d. one-replaced test part ps d few is.1 ∙ ap (λ n. set ps n (record (get_or ps n d) { part = part })) (sym is.0);
      found = λ d. find_at (λ (p : RecordedPart). test p.part) ps ∙ ap (slice_get ps) (sym is.0) ∙ slice_get-get_or ps i d within;
    }

-- no part is of the kind
pub record IsAbsent (test : Part → Bool) (ps : List RecordedPart) : Type 0 where
  pub left : (part : Part) → map (replaced test part) ps ≡ ps
  pub found : find (λ (p : RecordedPart). test p.part) ps ≡ None

pub absent-at : (test : Part → Bool) (ps : List RecordedPart) → None ≡ position (λ (p : RecordedPart). test p.part) ps → IsAbsent test ps
absent-at test ps none = record { left = λ part. none-replaced test part ps (unfound ps past); found = find_at (λ (p : RecordedPart). test p.part) ps ∙ ap (slice_get ps) (sym past) ∙ slice_get_past ps (length ps) (omega arith) }
  where
    past : length ps ≡ position_or_len (λ (p : RecordedPart). test p.part) ps
    past = first-none (λ (p : RecordedPart). test p.part) ps none

    unfound : (qs : List RecordedPart) → length qs ≡ position_or_len (λ (p : RecordedPart). test p.part) qs → is_among test qs ≡ false
    unfound [] all = refl
    unfound (q ∷ qs) all = elim (cases_Bool (test q.part)) [
      | inl is ↦ absurd (let none' = rw is at all in omega arith)
      | inr other ↦ rw other (unfound qs (let more = rw other at all in omega arith))
    ]

-- ---- each changed, one after another

changed-suc : (f : RecordedPart → RecordedPart) (ps : List RecordedPart) (i : ℕ) (d : RecordedPart) → i < length ps → set (map f (take i ps) ++ drop i ps) i (f (get_or ps i d)) ≡ map f (take (suc i) ps) ++ drop (suc i) ps
changed-suc f [] i d within = absurd (omega arith)
changed-suc f (p ∷ ps) zero d within = refl
changed-suc f (p ∷ ps) (suc i) d within = ap (λ l. f p ∷ l) (changed-suc f ps i d (omega arith))

pub changed-more : (f : RecordedPart → RecordedPart) (ps : List RecordedPart) (i : ℕ) (d : RecordedPart) → i < length ps → set (map f (take i ps) ++ drop i ps) i (f (get_or ps i d)) ≡ map f (take (i + 1) ps) ++ drop (i + 1) ps
changed-more f ps i d within = rw add-one (changed-suc f ps i d within)

pub changed-not-yet : (f : RecordedPart → RecordedPart) (ps : List RecordedPart) (i : ℕ) (d : RecordedPart) → i < length ps → get_or (map f (take i ps) ++ drop i ps) i d ≡ get_or ps i d
changed-not-yet f [] i d within = absurd (omega arith)
changed-not-yet f (p ∷ ps) zero d within = refl
changed-not-yet f (p ∷ ps) (suc i) d within = changed-not-yet f ps i d (omega arith)

pub no-changes : (part : Part) → is_part_of DonePart.Files part ≡ false → changes_in part ≡ []
no-changes (Enlistment enlistment manager information) other = refl
no-changes (Changes changes) other = absurd (true≢false other)
no-changes (Settings settings) other = refl

pub no-settings : (part : Part) → is_part_of DonePart.Keys part ≡ false → settings_in part ≡ []
no-settings (Enlistment enlistment manager information) other = refl
no-settings (Changes changes) other = refl
no-settings (Settings settings) other = absurd (true≢false other)
