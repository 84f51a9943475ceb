-- The files that a transaction wrote, as they are shown one after another.
use Rattle.std.proofs.Common.{◌≡◌, ℕ, ◌+◌, not, true, length, map, List, [], ◌∷◌, Option, Some, Bor, refl, sym, ◌∙◌, ap, arith, inl, inr}
use Rattle.std.proofs.lemmas.Bool.{cases_Bool, and_from, le-ltb, lt-ltb, ltb-true, ltb-false}
use Rattle.std.proofs.lemmas.List.Elements.{All-head, All-tail}
use Rattle.std.specs.List.{flat_map, list_all}
use Rattle.std.specs.Option.{option_copied, option_map}
use Rattle.std.specs.Prelude.{All, nat_lt}
use Rattle.ktm_event.specs.OnPages.{AreEach, IsRecordedChange}
use Rattle.ktm_event.specs.Work.{FinalFile, changes_of_file, first_above, first_of, pages_changes}
use Rattle.ktm_event.proofs.offered.Recorded.{each-both}
use Rattle.ktm_world.specs.Committed.{final_bytes}
use Rattle.txf_overlay.specs.OverlayState.{OverlayState, Written, final_of}
use Rattle.txf_overlay.specs.Pages.{LieOnPages, pages_in}
use Rattle.txf_overlay.specs.Written.{AreOver, AreFilesRising, first_from}
use Rattle.txf_volume.specs.Shown.{are_rising, recorded_file, recorded_files, shown}

-- ---- rising numbers

-- where all rise, all are shown
pub shown-all : (fs : List FinalFile) → are_rising fs ≡ true → shown fs ≡ fs
shown-all fs rise = rw rise refl

over-all : (n : ℕ) (ws : List Written) → AreOver n ws → list_all (λ (f : FinalFile). nat_lt n f.file) (map recorded_file ws) ≡ true
over-all n [] over = refl
over-all n (w ∷ ws) over = and_from _ _ (lt-ltb n w.file over.0) (over-all n ws over.1)

pub recorded-rise : (ws : List Written) → AreFilesRising ws → are_rising (map recorded_file ws) ≡ true
recorded-rise [] rise = refl
recorded-rise (w ∷ ws) rise = and_from _ _ (over-all w.file ws rise.0) (recorded-rise ws rise.1)

-- what a transaction changed is shown whole
pub shown-now : (found : Option (Bor OverlayState)) (o : Bor OverlayState) (now : List FinalFile) → found ≡ Some o → recorded_files (option_copied found) ≡ now → are_rising (recorded_files (option_copied found)) ≡ true
    → map recorded_file o.now.written ≡ shown now
shown-now found o now is view rise = ap (λ (f : Option (Bor OverlayState)). recorded_files (option_copied f)) (sym is) ∙ sym (shown-all (recorded_files (option_copied found)) rise) ∙ ap shown view

-- ---- one after another

pub first-is : (ws : List Written) → option_map recorded_file (first_from ws 0) ≡ first_of (map recorded_file ws)
first-is [] = refl
first-is (w ∷ ws) = rw (le-ltb w.file 0 (omega arith)) refl

not-below : (m n : ℕ) → not (nat_lt m (n + 1)) ≡ nat_lt n m
not-below m n = elim (cases_Bool (nat_lt n m)) [
  | inl above ↦ rw (above, le-ltb m (n + 1) (let less = ltb-true n m above in omega (arith, less))) refl
  | inr low ↦ rw (low, lt-ltb m (n + 1) (let most = ltb-false n m low in omega (arith, most))) refl
]

pub behind-is : (ws : List Written) (n : ℕ) → option_map recorded_file (first_from ws (n + 1)) ≡ first_above (map recorded_file ws) n
behind-is [] n = refl
behind-is (w ∷ ws) n = rw (not-below w.file n) (elim (cases_Bool (nat_lt n w.file)) [ inl above ↦ rw above refl | inr low ↦ rw low (behind-is ws n) ])

-- ---- their changes

-- the changes that are committed of a file, as they are recorded
file-recorded : (file : ℕ) (bytes : List ℕ) → LieOnPages bytes → AreEach IsRecordedChange (final_bytes file bytes) (pages_changes file (length bytes) (pages_in bytes))
file-recorded file [] on = (refl, tt)
file-recorded file (b ∷ bytes) on = (refl, ((refl, refl, record { long = refl; lie = on.lie; fit = on.fit }), tt))

pub files-recorded : (ws : List Written) → All (λ (w : Written). LieOnPages w.bytes) ws → AreEach IsRecordedChange (flat_map final_of ws) (flat_map changes_of_file (map recorded_file ws))
files-recorded [] all = tt
files-recorded (w ∷ ws) all =
    each-both IsRecordedChange (final_of w) (changes_of_file (recorded_file w)) (flat_map final_of ws) (flat_map changes_of_file (map recorded_file ws))
    (file-recorded w.file w.bytes (All-head (λ (w : Written). LieOnPages w.bytes) w ws all))
    (files-recorded ws (All-tail (λ (w : Written). LieOnPages w.bytes) w ws all))
