-- What is recorded of a transaction's work, and what a state has of it.
use Rattle.std.proofs.Common.{◌≡◌, ◌&&◌, ◌==◌, ℕ, zero, suc, Bool, true, List, [], ◌∷◌, ◌+◌, ◌/◌, filter, length, map, refl, sym, ◌∙◌, ap, ap₂, arith, eq-eqb}
use Rattle.std.proofs.lemmas.Bool.{and_from, and_parts, true≢false}
use Rattle.std.proofs.lemmas.List.Elements.{All-cons, All-head, All-nil}
use Rattle.std.proofs.lemmas.List.Folds.{list_all-append}
use Rattle.std.specs.List.{flat_map, list_all}
use Rattle.ktm_content.specs.Places.{places_on}
use Rattle.ktm_course.specs.OnPages.{RecordedLaw}
use Rattle.ktm_event.specs.OnPages.{AreEach, AreRecordedContents, IsRecordedChange}
use Rattle.ktm_event.specs.Spelling.{AreSpellableChanges, IsSpellableEvent, IsSpellablePart}
use Rattle.ktm_event.specs.Work.{FinalFile, changes_of, changes_of_file, pages_changes}
use Rattle.ktm_snapshot.specs.Works.{has_page_each, is_of_work, is_work, placed, placed_change, placed_part}
use Rattle.ktm_trace.specs.Contents.{contents_of}
use Rattle.ktm_world.specs.declared.change.Change.{Change}
use Rattle.ktm_world.specs.declared.change.Change.TheVariants.{Make, Put, Cut, Move, Drop}
use Rattle.ktm_world.specs.declared.change.Contents.{Contents}
use Rattle.ktm_world.specs.declared.change.Contents.TheVariants.{Whole, Paged}
use Rattle.ktm_world.specs.declared.event.DonePart.{DonePart}
use Rattle.ktm_world.specs.declared.event.Event.TheVariants.{Ready}
use Rattle.ktm_world.specs.declared.event.Part.TheVariants.{Changes}
use Rattle.ktm_world.specs.Enlistments.{Enlistment}
use Rattle.ktm_world.specs.Keys.{OwnSettings}
use Rattle.txf_laws.proofs.offered.Elements.{IsIn-filter, list_all-from}
use Rattle.txf_overlay.specs.OverlayState.{is_of_names}

-- ---- contents

-- contents that are recorded have a page for each unit, and a state has them as they are
recorded-pages : (contents recorded : Contents) → AreRecordedContents contents recorded → has_page_each recorded ≡ true
recorded-pages (Whole contents) (Paged len pages) are = eq-eqb _ _ (are.lie.units ∙ ap (λ n. (n + 4095) / 4096) (sym are.long))
recorded-pages (Whole contents) (Whole others) are = absurd are
recorded-pages (Paged len pages) recorded are = absurd are

recorded-contents : (contents recorded : Contents) → AreRecordedContents contents recorded → placed recorded ≡ contents
recorded-contents (Whole contents) (Paged len pages) are = ap Whole (ap (places_on pages) are.long ∙ sym are.lie.places)
recorded-contents (Whole contents) (Whole others) are = absurd are
recorded-contents (Paged len pages) recorded are = absurd are

-- ---- changes

-- a state has a recorded change as the one that it records
recorded-change : (change recorded : Change) → IsRecordedChange change recorded → placed_change recorded ≡ change
recorded-change (Put node offset contents) (Put node' offset' contents') are = rw (are.0, are.1, recorded-contents contents contents' are.2) refl
recorded-change (Put node offset contents) recorded are = absurd are
recorded-change (Make node parent kind name) recorded are = ap placed_change are
recorded-change (Cut node size pages) recorded are = ap placed_change are
recorded-change (Move node parent name) recorded are = ap placed_change are
recorded-change (Drop node) recorded are = ap placed_change are

pub recorded-changes : (changes recorded : List Change) → AreEach IsRecordedChange changes recorded → map placed_change recorded ≡ changes
recorded-changes [] [] are = refl
recorded-changes (c ∷ cs) (d ∷ ds) are = ap₂ ◌∷◌ (recorded-change c d are.0) (recorded-changes cs ds are.1)
recorded-changes [] (d ∷ ds) are = absurd are
recorded-changes (c ∷ cs) [] are = absurd are

-- ---- a transaction's work

-- a change of names, a file that is cut to nothing, or bytes that are put from the first one on
abbrev begins : Change → Bool
begins (Put node offset contents) = offset == 0
begins (Cut node size pages) = size == 0 && length pages == 0
begins _ = true

recorded-work : (change recorded : Change) → IsRecordedChange change recorded → begins recorded ≡ true → is_of_work recorded ≡ true
recorded-work (Put node offset contents) (Put node' offset' contents') are first = and_from _ _ first (recorded-pages contents contents' are.2)
recorded-work (Put node offset contents) recorded are first = absurd are
recorded-work (Make node parent kind name) recorded are first = ap is_of_work are
recorded-work (Cut node size pages) recorded are first = ap is_of_work are ∙ sym (ap begins are) ∙ first
recorded-work (Move node parent name) recorded are first = ap is_of_work are
recorded-work (Drop node) recorded are first = ap is_of_work are

all-work : (changes recorded : List Change) → AreEach IsRecordedChange changes recorded → list_all begins recorded ≡ true → list_all is_of_work recorded ≡ true
all-work [] [] are first = refl
all-work (c ∷ cs) (d ∷ ds) are first =
    let both = and_parts (begins d) (list_all begins ds) first in
    and_from (is_of_work d) (list_all is_of_work ds) (recorded-work c d are.0 both.0) (all-work cs ds are.1 both.1)
all-work [] (d ∷ ds) are first = absurd are
all-work (c ∷ cs) [] are first = absurd are

-- a change of names
names-begin : (c : Change) → is_of_names c ≡ true → begins c ≡ true
names-begin (Make node parent kind name) names = refl
names-begin (Put node offset contents) names = absurd (true≢false (sym names))
names-begin (Cut node size pages) names = absurd (true≢false (sym names))
names-begin (Move node parent name) names = refl
names-begin (Drop node) names = refl

all-names : (cs : List Change) → list_all begins (filter is_of_names cs) ≡ true
all-names cs = list_all-from begins (filter is_of_names cs) (λ c there. names-begin c (IsIn-filter is_of_names cs c there).1)

-- what gives a file its bytes
file-begins : (file len : ℕ) (pages : List ℕ) → list_all begins (pages_changes file len pages) ≡ true
file-begins file zero pages = refl
file-begins file (suc n) pages = refl

all-files : (files : List FinalFile) → list_all begins (flat_map changes_of_file files) ≡ true
all-files [] = refl
all-files (f ∷ fs) =
    list_all-append begins (changes_of_file f) (flat_map changes_of_file fs) ∙ and_from (list_all begins (changes_of_file f)) (list_all begins (flat_map changes_of_file fs)) (file-begins f.file f.len f.pages) (all-files fs)

-- what is recorded of a transaction's changes, by its changes of names and the files that it wrote, is its work
pub recorded-is_work : (changes names : List Change) (files : List FinalFile) → names ≡ filter is_of_names changes → AreEach IsRecordedChange changes (changes_of names files) → list_all is_of_work (changes_of names files) ≡ true
recorded-is_work changes names files is are =
    let given = flat_map changes_of_file files in
    all-work changes (changes_of names files) are (list_all-append begins names given ∙ and_from (list_all begins names) (list_all begins given) (ap (list_all begins) is ∙ all-names changes) (all-files files))

-- ---- spellings

-- what is recorded has bytes where the changes could have them: so it is of the event in which they stand
pub spelled-recorded : RecordedLaw → (changes recorded : List Change) → AreEach IsRecordedChange changes recorded → AreSpellableChanges changes → AreSpellableChanges recorded
spelled-recorded law changes recorded are spelled =
    let event = λ (cs : List Change). Ready (record { boot = 1; number = 1 }) (Changes cs) in
    let given = All-cons IsSpellableEvent (event changes) [] (record { boot_from = omega arith; number_from = omega arith }, spelled) (All-nil IsSpellableEvent) in
    (All-head IsSpellableEvent (event recorded) [] (law.spellable (event changes ∷ []) (event recorded ∷ []) ((refl, are), tt) given)).1

-- ---- parts

module _ (es : List Enlistment) (recorded : List Change) (settings : OwnSettings) where
  -- the part of a participant is one of a transaction's work
  pub work-contents : list_all is_of_work recorded ≡ true → (who : DonePart) → is_work (contents_of es recorded settings who) ≡ true
  work-contents work (DonePart.Enlistment id) = refl
  work-contents work DonePart.Files = work
  work-contents work DonePart.Keys = refl

  -- a state has it with the changes as a state has them
  pub placed-contents : (who : DonePart) → placed_part (contents_of es recorded settings who) ≡ contents_of es (map placed_change recorded) settings who
  placed-contents (DonePart.Enlistment id) = refl
  placed-contents DonePart.Files = refl
  placed-contents DonePart.Keys = refl

  -- it has bytes where that has
  pub spelled-contents : (changes : List Change) → (AreSpellableChanges changes → AreSpellableChanges recorded) → (who : DonePart) → IsSpellablePart (contents_of es changes settings who) → IsSpellablePart (contents_of es recorded settings who)
  spelled-contents changes spelled (DonePart.Enlistment id) has = has
  spelled-contents changes spelled DonePart.Files has = spelled has
  spelled-contents changes spelled DonePart.Keys has = has
