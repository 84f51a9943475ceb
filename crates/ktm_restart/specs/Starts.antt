-- What the reading of a snapshot leaves, and the replay of the log behind it. No public clause cites this module.
use Rattle.std.specs.Prelude.{◌≡◌, ℕ, List, Option, None, Some, Result, Ok, Err, Vec, IfSome}
use Rattle.ktm_journal.specs.declared.fault.LoadFault.{LoadFault}
use Rattle.ktm_journal.specs.declared.header.Header.{Header}
use Rattle.ktm_journal.specs.Image.{JournalState}
use Rattle.ktm_journal.specs.Open.{IsOfImage, log_reads}
use Rattle.ktm_log.specs.OnDisk.{OnDisk, WasRead}
use Rattle.ktm_records.specs.Spelling.{AreRecordedTexts}
use Rattle.txf_laws.specs.GoodState.{IsGoodState}
use Rattle.ktm_world.specs.Durable.{Durable}
use Rattle.ktm_restart.specs.Bad.{BeginsAs, IsBadSnapshot}
use Rattle.ktm_restart.specs.Loads.{FaultLeaves, KnowsState}
use Rattle.ktm_restart.specs.Logs.{IsOnPages, PagedFor}
use Rattle.ktm_restart.specs.Reading.{IsReadWell, ReadingState}
use Rattle.ktm_snapshot.specs.StateGrammar.{IsStateOf}

-- a good state on the pages of the image with this header, whose keys are texts
pub record IsOfHeader (header : Header) (state : Durable) : Type 0 where
  pub units : state.units ≡ header.units
  pub image : state.image ≡ header.image
  pub good : IsGoodState state
  pub on_pages : IsOnPages state
  pub texts : AreRecordedTexts state

-- such a state that is read, with the owners of its pages
pub record IsReading (header : Header) (r : ReadingState) : Type 0 where
  pub of_header : IsOfHeader header r.state
  pub well : IsReadWell r

-- a good state on pages stands in the bytes of a snapshot
pub record IsReadingOf (units image : ℕ) (bytes : List ℕ) (r : ReadingState) : Type 0 where
  pub units_are : r.state.units ≡ units
  pub number : r.state.image ≡ image
  pub spelled : IsStateOf r.state bytes
  pub on_pages : IsOnPages r.state
  pub texts : AreRecordedTexts r.state
  pub well : IsReadWell r

-- the state that stands in the bytes; there is none only where no good state on pages of such an image stands there
abbrev pub ReadsReading : ℕ → ℕ → List ℕ → Option ReadingState → Type 0
ReadsReading units image bytes None = IsBadSnapshot units image bytes
ReadsReading units image bytes (Some r) = IsReadingOf units image bytes r

-- the half that counts behind this header has the snapshot of this state
pub record IsAtStart {Z : Type 0} (header : Header) (old new : OnDisk (Vec ℕ Z)) (r : ReadingState) : Type 0 where
  pub reading : IsReading header r
  pub begins : IfSome old.told (λ s. BeginsAs header.units header.image header.selector r.state s.seen)
  pub read : WasRead 2 old new

-- what the reading of that snapshot leaves
abbrev pub StartLeaves : {Z : Type 0} → Header → OnDisk (Vec ℕ Z) → OnDisk (Vec ℕ Z) → Result ReadingState LoadFault → Type 0
StartLeaves header old new (Ok r) = IsAtStart header old new r
StartLeaves header old new (Err fault) = FaultLeaves 2 old new fault

-- the image with this header has this journal, and its snapshot and its log come to this state
pub record IsReplayed {Z : Type 0} (header : Header) (state : Durable) (old new : OnDisk (Vec ℕ Z)) (journal : JournalState) : Type 0 where
  pub of_image : IsOfImage header new.it journal
  pub of_header : IsOfHeader header state
  pub stands : IfSome old.told (λ s. PagedFor state s.seen)
  pub knows : KnowsState old.told new.told journal
  pub read : WasRead (log_reads header.units) old new

-- what the replay of the log leaves, which makes this state of that of the snapshot
abbrev pub ReplayLeaves : {Z : Type 0} → Header → Durable → OnDisk (Vec ℕ Z) → OnDisk (Vec ℕ Z) → Result JournalState LoadFault → Type 0
ReplayLeaves header state old new (Ok journal) = IsReplayed header state old new journal
ReplayLeaves header state old new (Err fault) = FaultLeaves (log_reads header.units) old new fault
