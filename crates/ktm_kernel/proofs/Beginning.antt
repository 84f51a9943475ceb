-- What is held once the start of a machine is recorded.
use Rattle.std.proofs.Common.{◌≡◌, ℕ, ◌*◌, ◌≤◌, ◌==◌, ◌&&◌, nat_le, Bool, true, false, List, [], length, replicate, Option, None, Result, Ok, Err, sym, ◌∙◌, ap, subst, arith, inl, inr}
use Rattle.std.proofs.lemmas.Bool.{and_parts, cases_Bool, cases_lt, eqb-true, leb-true}
use Rattle.std.proofs.lemmas.List.{get_or-replicate, get_or_past, length-replicate}
use Rattle.ktm_base.specs.declared.fault.Down.{Down}
use Rattle.ktm_base.specs.Disk.{DiskState, DiskStatus}
use Rattle.ktm_core.specs.Core.{AreSoundFiles, is_sound}
use Rattle.ktm_core.specs.Memory.{MemoryState}
use Rattle.ktm_core.specs.Rules.{Follows}
use Rattle.ktm_core.specs.Starting.{StartLeaves}
use Rattle.ktm_core.specs.Stored.{FilesLieBelow, HoldsFiles}
use Rattle.ktm_core.proofs.offered.Places.{files-weaker}
use Rattle.ktm_event.specs.Kept.{EventsState}
use Rattle.ktm_journal.specs.Image.{page_count}
use Rattle.ktm_log.specs.OnDisk.{on}
use Rattle.ktm_store.specs.Marks.{IsClear}
use Rattle.ktm_store.specs.Pool.{kept_at}
use Rattle.ktm_store.specs.Store.{PoolState}
use Rattle.ktm_store.specs.Stored.{is_stored}
use Rattle.ktm_world.specs.Files.{FilesNow}
use Rattle.txf_volume.specs.Held.{files_of}
use Rattle.ktm_kernel.specs.Begun.{AreOnDiskAlone, BeginLeaves}

-- a place that is sound is on one of the pages
sound-low : (owner : ℕ → ℕ × ℕ) (count file index place : ℕ) → Follows (is_sound owner count) file index place → place ≤ count * 4096
sound-low owner count file index place is = elim (cases_Bool (place == 0)) [
  | inl none ↦ omega (arith, eqb-true place 0 none)
  | inr some ↦ leb-true place (count * 4096) (and_parts ((owner place).0 == file && (owner place).1 == index) (nat_le place (count * 4096)) (rw some at is)).1
]

-- files that are sound lie on the pages that there are
pub sound-below : (count many : ℕ) (files : FilesNow) → many ≡ count → AreSoundFiles count files → FilesLieBelow many files
sound-below count many files same (owner, each) =
    subst (λ n. FilesLieBelow n files) (sym same) (files-weaker (Follows (is_sound owner count)) (λ file index place. place ≤ count * 4096) (sound-low owner count) files each)

-- in a row of so many pages of none there is none
none-at : (many page : ℕ) → kept_at (replicate many None) page ≡ None
none-at many page = let none : Option (List ℕ) = None in elim (cases_lt page many) [
  | inl below ↦ get_or-replicate many page None None below
  | inr past ↦ get_or_past (replicate many None) page None (omega (arith, past, length-replicate many none))
]

-- those of a new store are on the disk alone
pub new-alone : (count many : ℕ) (pool : PoolState) → count ≡ many → pool.seen ≡ replicate many None → IsClear many pool.marks → pool.stored ≡ replicate many true → pool.wanted ≡ [] → AreOnDiskAlone count pool
new-alone count many pool same seen clear stored wanted = record {
  count_is = ap (λ (held : List Bool). length held) clear.held ∙ length-replicate many false ∙ sym same;
  none = λ page. ap (λ (pages : List (Option (List ℕ))). kept_at pages page) seen ∙ none-at many page;
  stored = λ page below. ap (λ (is : List Bool). is_stored is page) stored ∙ get_or-replicate many page true false (omega (arith, below, same));
  wanted = wanted;
}

-- what the recording of a start leaves, behind the holding of the pages of its files
pub began : (events : EventsState) (m n : MemoryState) (told now : Option DiskState) (s t : DiskStatus) (old new : PoolState) → AreOnDiskAlone (page_count m.journal.units) old → HoldsFiles (files_of m.files) old new
    → (result : Result (Unit {0}) Down) → StartLeaves events (on m told s) (on n now t) result → BeginLeaves events (on m told s) (on n now t) new result
began events m n told now s t old new alone holds (Ok done) leaves = record {
  count = holds.count ∙ alone.count_is;
  held = holds.places;
  shows = λ row size. record { size = size; bytes = λ page bytes is. (let none = sym (kept page) ∙ is in absurd (cc)) };
  stored = λ page below. ap (λ (stored : List Bool). is_stored stored page) holds.stored ∙ alone.stored page (omega (arith, below, holds.count, alone.count_is));
  wanted = holds.wanted ∙ alone.wanted;
  leaves = leaves;
}
  where
    kept : (page : ℕ) → kept_at new.seen page ≡ None
    kept page = ap (λ (seen : List (Option (List ℕ))). kept_at seen page) holds.seen ∙ alone.none page
began events m n told now s t old new alone holds (Err down) leaves = leaves
