-- What the loading of a log says of a load, which reads the header and the snapshot before it.
use Rattle.std.specs.Prelude.{IfOk, IfSome}
use Rattle.std.proofs.Common.{◌≡◌, ℕ, ◌+◌, ◌≤◌, Bool, false, true, List, Result, Ok, Err, Option, None, Some, Vec, refl, sym, ◌∙◌, ap, subst, arith}
use Rattle.ktm_base.specs.Disk.{DiskState, DiskStatus, OnlyReads}
use Rattle.ktm_base.proofs.offered.Images.{calls_law}
use Rattle.ktm_journal.specs.Bad.{HasNoHeader, load_went_down}
use Rattle.ktm_journal.specs.Image.{IsHeaded, half_of, snapshot_area}
use Rattle.ktm_journal.specs.Snapshot.{IsSnapshotRead, SnapshotLeaves}
use Rattle.ktm_journal.specs.declared.fault.LoadFault.{LoadFault}
use Rattle.ktm_journal.specs.declared.fault.LoadFault.TheVariants.{Down, Bad, NoMemory}
use Rattle.ktm_journal.specs.declared.header.Header.{Header}
use Rattle.ktm_log.specs.OnDisk.{OnDisk, ReadsInto, WasRead, on}
use Rattle.ktm_log.proofs.Reading.{reads_most}
use Rattle.ktm_world.specs.Durable.{Durable}
use Rattle.ktm_restart.specs.declared.replay.Loaded.{Loaded}
use Rattle.ktm_restart.specs.Loads.{FaultLeaves, IsLoaded, KnowsState, LoadLeaves}
use Rattle.ktm_restart.specs.Bad.{IsBadAt, IsBadSnapshot}
use Rattle.ktm_restart.specs.Starts.{IsAtStart, IsReadingOf, ReadsReading}
use Rattle.ktm_restart.specs.Logs.{IsOnPages, PagedFor}
use Rattle.ktm_restart.proofs.LogLoads.{bad_snapshot, good_snapshot, headless_told, no_snapshot}
use Rattle.ktm_restart.specs.Reading.{IsReadWell, ReadingState, ReadsOn}
use Rattle.ktm_restart.proofs.offered.OneState.{one_first}
use Rattle.ktm_records.specs.Spelling.{AreRecordedTexts}
use Rattle.ktm_saved.specs.Saved.{IsSaved, ReadsSaved, state_of}
use Rattle.ktm_saved.specs.declared.saved.Saved.{Saved}
use Rattle.ktm_snapshot.specs.Laws.{OneStateAtMost}
use Rattle.ktm_snapshot.specs.StateGrammar.{IsStateOf}

-- something was read before, and the disk is still up
module _ {Z : Type 0} (old mid new : OnDisk (Vec ℕ Z)) (first then most : ℕ) (before : WasRead first old mid) (few : first + then ≤ most) where
  reads_behind : (refused : Bool) → ReadsInto then mid new refused → ReadsInto most old new refused
  reads_behind refused read = reads_most (first + then) most old new few refused (record {
    kept = omega (arith, before.reads.kept, read.kept);
    reads = record {
      same = read.reads.same ∙ before.reads.reads.same;
      pending = read.reads.pending ∙ before.reads.reads.pending;
      calls = calls_law old.status mid.status new.status first then refused before.reads.reads.calls read.reads.calls;
    };
  })

  read_behind : WasRead then mid new → WasRead most old new
  read_behind read = record { reads = reads_behind false read.reads; up = read.up }

  loaded_behind : (loaded : Loaded) → IsLoaded then mid new loaded → IsLoaded most old new loaded
  loaded_behind loaded is = record {
    state = is.state;
    journal = is.journal;
    room = is.room;
    stands = subst (λ x. IfSome x (λ s. PagedFor loaded.state s.seen)) before.reads.reads.same is.stands;
    headed = is.headed;
    knows = subst (λ x. KnowsState x new.told loaded.journal) before.reads.reads.same is.knows;
    read = read_behind is.read;
  }

  pub fault_behind : (fault : LoadFault) → FaultLeaves then mid new fault → FaultLeaves most old new fault
  fault_behind Down read = reads_behind true read
  fault_behind (Bad offset) is = record { bad = subst (λ x. IfSome x (λ s. IsBadAt s.seen offset)) before.reads.reads.same is.bad; read = read_behind is.read }
  fault_behind NoMemory read = reads_behind false read

  pub loads_behind : (result : Result Loaded LoadFault) → LoadLeaves then mid new result → LoadLeaves most old new result
  loads_behind (Ok loaded) is = loaded_behind loaded is
  loads_behind (Err fault) is = fault_behind fault is

-- a fault came, after fewer calls than there may be
pub fault_most : {Z : Type 0} (m n : ℕ) (old new : OnDisk (Vec ℕ Z)) (fault : LoadFault) → m ≤ n → FaultLeaves m old new fault → FaultLeaves n old new fault
fault_most m n old new Down few read = reads_most m n old new few true read
fault_most m n old new (Bad offset) few is = record { bad = is.bad; read = record { reads = reads_most m n old new few false is.read.reads; up = is.read.up } }
fault_most m n old new NoMemory few read = reads_most m n old new few false read

module _ {Z : Type 0} (buffer : Vec ℕ Z) (o m : Option DiskState) (s t : DiskStatus) (first : ℕ) where
  reads_header : (most : ℕ) (refused : Bool) → first ≤ most → OnlyReads first o m s t refused → ReadsInto most (on buffer o s) (on buffer m t) refused
  reads_header most refused few reads = reads_most first most (on buffer o s) (on buffer m t) few refused (record { kept = omega arith; reads = reads })

  pub header_read : OnlyReads first o m s t false → t.is_down ≡ false → WasRead first (on buffer o s) (on buffer m t)
  header_read reads up = record { reads = reads_header first false (omega arith) reads; up = up }

  pub no_header : (most : ℕ) (fault : LoadFault) → first ≤ most → (let r : Result Loaded LoadFault = Err fault in OnlyReads first o m s t (load_went_down r))
      → ((offset : ℕ) → fault ≡ Bad offset → IfSome o (λ s. HasNoHeader s.seen) × (offset ≡ 0)) → ((offset : ℕ) → fault ≡ Bad offset → t.is_down ≡ false) → FaultLeaves most (on buffer o s) (on buffer m t) fault
  no_header most Down few reads bad up = reads_header most true few reads
  no_header most (Bad offset) few reads bad up = record { bad = headless_told o offset (bad offset refl); read = record { reads = reads_header most false few reads; up = up offset refl } }
  no_header most NoMemory few reads bad up = reads_header most false few reads

-- the snapshot was read behind this header, or was not
module _ {Z : Type 0} (header : Header) (old new : OnDisk (Vec ℕ Z)) (headed : IfSome old.told (λ s. IsHeaded header.units header.image header.selector s.seen)) where
  pub started : IsSnapshotRead header old new → (r : ReadingState) → IsReadingOf header.units header.image new.it.items r → IsAtStart header old new r
  started is r of = record {
    reading = record {
      of_header = record { units = of.units_are; image = of.number; good = of.well.good; on_pages = of.on_pages; texts = of.texts };
      well = of.well;
    };
    begins = good_snapshot header old.told headed r.state new.it.items of.units_are of.number of.spelled of.well.good of.on_pages is.snapshot;
    read = is.read;
  }

  pub not_started : (offset : ℕ) → IsSnapshotRead header old new → IsBadSnapshot header.units header.image new.it.items → offset ≡ (snapshot_area header.units (half_of header.selector)).at → FaultLeaves 2 old new (Bad offset)
  not_started offset is bad at = record { bad = bad_snapshot header old.told headed offset new.it.items bad is.snapshot at; read = is.read }

  pub unread : (fault : LoadFault) → SnapshotLeaves header old new (Err fault) → FaultLeaves 2 old new fault
  unread Down read = read
  unread (Bad offset) is = record { bad = no_snapshot header old.told headed offset is.none is.at; read = is.read }
  unread NoMemory short = reads_most 0 2 old new (omega arith) false short.reads

-- a good state that was saved is read, if it is on pages
module _ (units image : ℕ) (bytes : List ℕ) (saved : Saved) (is : IsSaved units image bytes saved) where
  read_on : (r : ReadingState) → r.state ≡ state_of units image saved → IsOnPages r.state → IsReadWell r → IsReadingOf units image bytes r
  read_on r same on_pages well = record {
    units_are = ap (λ (s : Durable). s.units) same;
    number = ap (λ (s : Durable). s.image) same;
    spelled = subst (λ (s : Durable). IsStateOf s bytes) (sym same) is.spelled;
    on_pages = on_pages;
    texts = subst AreRecordedTexts (sym same) is.texts;
    well = well;
  }

  read_off : OneStateAtMost → ¬ IsOnPages (state_of units image saved) → IsBadSnapshot units image bytes
  read_off law off s units_are image_is spelled good on_pages =
      off (subst IsOnPages (one_first law s (state_of units image saved) bytes units_are image_is spelled is.spelled) on_pages)

  pub reads_reading : {E : Type 0} → OneStateAtMost → (r : Result (Option ReadingState) E) → IfOk r (ReadsOn (state_of units image saved)) → IfOk r (λ read. ReadsReading units image bytes read)
  reads_reading law (Ok (Some reading)) on = read_on reading on.0 on.1 on.2
  reads_reading law (Ok None) off = read_off law off
  reads_reading law (Err e) none = tt

-- where no good state stands there, no good state on pages does
pub none_saved : (units image : ℕ) (bytes : List ℕ) → ReadsSaved units image bytes None → IsBadSnapshot units image bytes
none_saved units image bytes none s units_are image_is spelled good on_pages = none s units_are image_is spelled good
