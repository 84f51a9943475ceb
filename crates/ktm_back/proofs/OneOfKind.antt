-- Parts of which one at most is of a kind, one after another.
use Rattle.std.proofs.Common.{◌≡◌, ℕ, ◌+◌, ◌≤◌, Bool, true, false, cond, List, [], ◌∷◌, ◌++◌, refl, sym, ◌∙◌, ap, arith, inl, inr}
use Rattle.std.proofs.lemmas.Bool.{cases_Bool, true≢false}
use Rattle.std.proofs.lemmas.Grind.{flat_map-append}
use Rattle.std.proofs.lemmas.List.{append-nil}
use Rattle.ktm_world.specs.declared.event.DonePart.{DonePart}
use Rattle.ktm_world.specs.declared.event.Part.{Part}
use Rattle.ktm_world.specs.declared.event.Part.TheVariants.{Enlistment, Changes, Settings}
use Rattle.ktm_world.specs.declared.recorded.RecordedPart.{RecordedPart}
use Rattle.ktm_world.specs.Durable.{changes_in, is_part_of, settings_in}
use Rattle.txf_laws.proofs.offered.Sums.{count-append, count-cons}
use Rattle.txf_laws.proofs.offered.Parts.{count_among, gathered, gathered-push, gathered-push_none}

-- what is not the files' has no changes, and what is not the keys' has no settings
pub no-changes : (part : Part) → is_part_of DonePart.Files part ≡ false → changes_in part ≡ []
no-changes (Enlistment enlistment manager information) other = refl
no-changes (Changes changes) other = absurd (true≢false other)
no-changes (Settings settings) other = refl

pub no-settings : (part : Part) → is_part_of DonePart.Keys part ≡ false → settings_in part ≡ []
no-settings (Enlistment enlistment manager information) other = refl
no-settings (Changes changes) other = refl
no-settings (Settings settings) other = absurd (true≢false other)

module _ {X : Type 0} (g : Part → List X) (test : Part → Bool) (empty : (part : Part) → test part ≡ false → g part ≡ []) where
  -- how many the first one and the others are
  counted : (p : RecordedPart) (ps : List RecordedPart) → count_among test (p ∷ ps) ≡ cond (test p.part) 1 0 + count_among test ps
  counted p ps = count-cons (λ (q : RecordedPart). test q.part) p ps

  one : (p : RecordedPart) → test p.part ≡ true → ◌≡◌ {A = ℕ} (cond (test p.part) 1 0) 1
  one p is = rw is refl

  -- where none is of the kind, nothing is gathered
  none-gathered : (ps : List RecordedPart) → count_among test ps ≡ 0 → gathered g ps ≡ []
  none-gathered [] none = refl
  none-gathered (p ∷ ps) none = elim (cases_Bool (test p.part)) [
    | inl is ↦ absurd (let all = counted p ps in let is_one = one p is in omega arith)
    | inr other ↦ rw (empty p.part other) (none-gathered ps (let all = counted p ps in omega arith))
  ]

  module _ (before behind : List RecordedPart) (p : RecordedPart) (few : count_among test (before ++ p ∷ behind) ≤ 1) where
    parts : count_among test before + (cond (test p.part) 1 0 + count_among test behind) ≤ 1
    parts = let all = count-append (λ (q : RecordedPart). test q.part) before (p ∷ behind) in let first = counted p behind in omega arith

    -- those before one of the kind have nothing, nor have those behind it
    pub none-before : test p.part ≡ true → gathered g before ≡ []
    none-before is = none-gathered before (let all = parts in let is_one = one p is in omega arith)

    none-behind : test p.part ≡ true → gathered g behind ≡ []
    none-behind is = none-gathered behind (let all = parts in let is_one = one p is in omega arith)

    -- it has what all have
    pub alone : test p.part ≡ true → gathered g (before ++ p ∷ behind) ≡ g p.part
    alone is =
        flat_map-append (λ (q : RecordedPart). g q.part) before (p ∷ behind)
        ∙ ap (λ (xs : List X). xs ++ (g p.part ++ gathered g behind)) (none-before is)
        ∙ ap (λ (xs : List X). g p.part ++ xs) (none-behind is)
        ∙ append-nil (g p.part)

    -- what is made of nothing where there is nothing is made of those before it and of it as of both
    pub joined : {Y : Type 0} (h : List X → List Y) → h [] ≡ [] → h (gathered g before) ++ h (g p.part) ≡ h (gathered g (before ++ p ∷ []))
    joined {Y} h none = elim (cases_Bool (test p.part)) [
      | inl is ↦
          ap (λ (xs : List X). h xs ++ h (g p.part)) (none-before is)
          ∙ ap (λ (ys : List Y). ys ++ h (g p.part)) none
          ∙ sym (ap h (gathered-push g before p ∙ ap (λ (xs : List X). xs ++ g p.part) (none-before is)))
      | inr other ↦
          ap (λ (xs : List X). h (gathered g before) ++ h xs) (empty p.part other)
          ∙ ap (λ (ys : List Y). h (gathered g before) ++ ys) none
          ∙ append-nil (h (gathered g before))
          ∙ sym (ap h (gathered-push_none g before p (empty p.part other)))
    ]
