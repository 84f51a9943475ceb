-- The files that a transaction wrote, as they are recorded.
use Rattle.std.specs.Prelude.{◌≡◌, ℕ, Bool, true, false, List, [], ◌∷◌, length, map, nat_lt, Option, Some, None, if◌then◌else◌}
use Rattle.std.specs.List.{list_all}
use Rattle.std.proofs.Common.{refl}
use Rattle.std.proofs.lemmas.Bool.{and_parts, ltb-true}
use Rattle.ktm_event.specs.Work.{AreAbove, AreRising, FinalFile}
use Rattle.txf_laws.specs.Elements.{each_pair}
use Rattle.txf_overlay.specs.OverlayState.{OverlayState, Written}
use Rattle.txf_overlay.specs.Pages.{pages_in}

-- a file with the pages of all of its bytes
abbrev pub recorded_file : Written → FinalFile
recorded_file w = record { file = w.file; len = length w.bytes; pages = pages_in w.bytes }

-- the files of what a transaction changed, if it changed anything
abbrev pub recorded_files : Option OverlayState → List FinalFile
recorded_files None = []
recorded_files (Some o) = map recorded_file o.written

-- do their numbers rise
abbrev pub are_rising : List FinalFile → Bool
are_rising files = each_pair (λ f g. nat_lt f.file g.file) files

-- those that are shown: all of them, since their numbers rise
abbrev pub shown : List FinalFile → List FinalFile
shown files = if are_rising files then files else []

-- ---- the numbers of those that are shown rise

-- The proof stands here, since the impl gives it with what is shown.

are_above-from : (n : ℕ) (files : List FinalFile) → list_all (λ f. nat_lt n f.file) files ≡ true → AreAbove n files
are_above-from n [] all = tt
are_above-from n (f ∷ fs) all =
    let parts = and_parts (nat_lt n f.file) (list_all (λ f. nat_lt n f.file) fs) all in
    (ltb-true n f.file parts.0, are_above-from n fs parts.1)

rising-from : (files : List FinalFile) → are_rising files ≡ true → AreRising files
rising-from [] rise = tt
rising-from (f ∷ fs) rise =
    let parts = and_parts (list_all (λ g. nat_lt f.file g.file) fs) (are_rising fs) rise in
    (are_above-from f.file fs parts.0, rising-from fs parts.1)

pub shown-rising : (files : List FinalFile) → AreRising (shown files)
shown-rising files = go (are_rising files) refl
  where
    go : (rise : Bool) → are_rising files ≡ rise → AreRising (if rise then files else [])
    go true rise = rising-from files rise
    go false rise = tt
