-- What a transaction has to record of its work.
use Rattle.std.specs.Prelude.{ℕ, zero, suc, ◌<◌, All, List, [], ◌∷◌, ◌++◌, Option, Some, None, find, nat_lt}
use Rattle.std.specs.List.{flat_map}
use Rattle.ktm_base.specs.declared.id.Id.{Id}
use Rattle.ktm_world.specs.declared.change.Change.{Change}
use Rattle.ktm_world.specs.declared.change.Change.TheVariants.{Put, Cut}
use Rattle.ktm_world.specs.declared.change.Contents.TheVariants.{Paged}
use Rattle.ktm_world.specs.declared.event.Part.{Part}
use Rattle.ktm_world.specs.declared.event.Event.{Event}
use Rattle.ktm_world.specs.declared.event.Event.TheVariants.{Ready, Single}
use Rattle.ktm_event.specs.Spelling.{IsRecordableChange}
use Rattle.ktm_event.specs.declared.work.FilePages.{FilePages}
use Rattle.ktm_event.specs.declared.work.Work.{Work}
use Rattle.ktm_event.specs.declared.work.Work.TheVariants.{Changes, Settings, Enlistment}
use Rattle.ktm_event.specs.declared.work.Stage.{Stage}
use Rattle.ktm_event.specs.declared.work.Stage.TheVariants.{Ready as Prepared, Single as Alone}

-- a file that a transaction wrote: how many bytes it has, and the pages that hold them
pub record FinalFile : Type 0 where
  pub file : ℕ
  pub len : ℕ
  pub pages : List ℕ

-- the one that is shown
abbrev pub final_file : FilePages → FinalFile
final_file f = record { file = f.file; len = f.len; pages = f.pages.now }

-- the first of the files
abbrev pub first_of : List FinalFile → Option FinalFile
first_of [] = None
first_of (f ∷ fs) = Some f

-- the first of those whose numbers are above this one
abbrev pub first_above : List FinalFile → ℕ → Option FinalFile
first_above fs number = find (λ f. nat_lt number f.file) fs

-- each has a greater number
abbrev pub AreAbove : ℕ → List FinalFile → Type 0
AreAbove number [] = Unit {0}
AreAbove number (f ∷ fs) = (number < f.file) × AreAbove number fs

-- the numbers rise
abbrev pub AreRising : List FinalFile → Type 0
AreRising [] = Unit {0}
AreRising (f ∷ fs) = AreAbove f.file fs × AreRising fs

-- a cut to nothing, and the bytes where there are any: by cases the same as `final_bytes` of the worlds, but on their pages
abbrev pub pages_changes : ℕ → ℕ → List ℕ → List Change
pages_changes file zero pages = Cut file 0 [] ∷ []
pages_changes file (suc n) pages = Cut file 0 [] ∷ Put file 0 (Paged (suc n) pages) ∷ []

-- the changes that give a file the bytes that were written
abbrev pub changes_of_file : FinalFile → List Change
changes_of_file f = pages_changes f.file f.len f.pages

-- the changes of names, and then those of the files
abbrev pub changes_of : List Change → List FinalFile → List Change
changes_of names files = names ++ flat_map changes_of_file files

-- the part that the work is, where its files are these
abbrev pub part_of : {F : Type 0} → (F → List FinalFile) → Work F → Part
part_of files_of (Changes names files) = Part.Changes (changes_of names.now (files_of files.now))
part_of files_of (Settings settings) = Part.Settings settings.now
part_of files_of (Enlistment enlistment manager information) = Part.Enlistment enlistment manager information.now

-- the changes of names among the work put no contents but such as stand on pages
abbrev pub IsRecordableWork : {F : Type 0} → Work F → Type 0
IsRecordableWork (Changes names files) = All IsRecordableChange names.now
IsRecordableWork _ = Unit {0}

-- the event of a participant that is prepared, or of a transaction that has this one part alone and commits
abbrev pub work_event : Stage → Id → Part → Event
work_event Prepared transaction part = Ready transaction part
work_event Alone transaction part = Single transaction part

-- the tag of that event
abbrev pub stage_tag : Stage → ℕ
stage_tag Prepared = 4
stage_tag Alone = 5
