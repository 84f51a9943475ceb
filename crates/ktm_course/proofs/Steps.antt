-- Steps one after another.
use Rattle.std.proofs.Common.{◌≡◌, ℕ, zero, suc, Bool, true, false, ◌==◌, not, List, [], ◌∷◌, ◌++◌, length, refl, sym, ◌∙◌, ap, append_assoc, arith}
use Rattle.std.proofs.lemmas.Bool.{eqb-true, false_from_ne_true}
use Rattle.ktm_event.specs.Work.{FinalFile, changes_of, pages_changes}
use Rattle.ktm_world.specs.declared.change.Change.{Change}
use Rattle.ktm_world.specs.declared.event.Event.{Event}
use Rattle.ktm_world.specs.declared.step.Step.{Step}
use Rattle.ktm_world.specs.declared.step.Step.TheVariants.{Record, Tell, Ask, Enter, Decide, End, EndWhereFinished}
use Rattle.ktm_world.specs.Changes.{has_changes}
use Rattle.ktm_world.specs.Steps.{Basis, events_ahead, events_of, is_recorded_by}
use Rattle.ktm_course.specs.Recorded.{recorded_after}

-- the basis once these steps are recorded
abbrev then_basis : List Step → Basis → Basis
then_basis steps b = record b { is_recorded = recorded_after steps b }

-- what steps and then others record
pub both_record : (xs ys : List Step) (b : Basis) → events_ahead (xs ++ ys) b ≡ events_ahead xs b ++ events_ahead ys (then_basis xs b)
both_record [] ys b = refl
both_record (Record fact ∷ xs) ys b =
    ap (λ (es : List Event). events_of fact b ++ es) (both_record xs ys (record b { is_recorded = is_recorded_by fact b }))
    ∙ sym (append_assoc (events_of fact b) _ _)
both_record (Step.Commit ∷ xs) ys b = both_record xs ys b
both_record (Tell who kind ∷ xs) ys b = both_record xs ys b
both_record (Ask who kind owed ∷ xs) ys b = both_record xs ys b
both_record (Step.Change answer ∷ xs) ys b = both_record xs ys b
both_record (Enter phase ∷ xs) ys b = both_record xs ys b
both_record (Decide outcome ∷ xs) ys b = both_record xs ys b
both_record (End outcome ∷ xs) ys b = both_record xs ys b
both_record (EndWhereFinished outcome ∷ xs) ys b = both_record xs ys b

-- the first step, and then the others
pub first_records : (step : Step) (steps left : List Step) (b : Basis) → left ≡ step ∷ steps
    → events_ahead left b ≡ events_ahead (step ∷ []) b ++ events_ahead steps (then_basis (step ∷ []) b)
first_records step steps left b is = ap (λ (l : List Step). events_ahead l b) is ∙ both_record (step ∷ []) steps b

-- ---- the parts

some_there : (n : ℕ) → (suc n == 0) ≡ false
some_there n = false_from_ne_true (suc n == 0) (λ empty. absurd (omega (arith, eqb-true (suc n) 0 empty)))

-- has it changes, where it changed names
pub by_names : (names : List Change) (files : List FinalFile) (none : Bool) → none ≡ (length names == 0) → none ≡ false → not none ≡ has_changes (changes_of names files)
by_names [] files none is some = absurd (cc)
by_names (n ∷ ns) files none is some = ap not some

-- has it changes, where it changed no names, by whether it wrote files
pub by_files : (names : List Change) (files : List FinalFile) (none unwritten : Bool) → none ≡ (length names == 0) → none ≡ true → unwritten ≡ (length files == 0) → not unwritten ≡ has_changes (changes_of names files)
by_files (n ∷ ns) files none unwritten is all written = let there = some_there (length ns) in absurd (cc)
by_files [] [] none unwritten is all written = ap not written
by_files [] (f ∷ fs) none unwritten is all written =
    ap not (written ∙ some_there (length fs)) ∙ sym (some_changes f.file f.len f.pages _)
  where
    some_changes : (file len : ℕ) (pages : List ℕ) (rest : List Change) → has_changes (pages_changes file len pages ++ rest) ≡ true
    some_changes file zero pages rest = refl
    some_changes file (suc n) pages rest = refl
