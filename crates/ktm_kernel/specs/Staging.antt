-- Pages that are filled before what is written is asked, and what a line asks over the places of bytes. No public clause cites this module.
use Rattle.std.specs.Prelude.{◌≡◌, ℕ, ◌≤◌, ◌==◌, ◌||◌, Bool, true, false, List, [], length, Option, Some, None, Result, Ok, Err, OnErr, OnOk}
use Rattle.ktm_base.specs.declared.fault.NoMemory.{NoMemory}
use Rattle.ktm_base.specs.declared.id.Id.{Id}
use Rattle.ktm_base.specs.declared.refusal.Refusal.{Refusal}
use Rattle.ktm_base.specs.declared.refusal.Refusal.TheVariants.{MachineDown}
use Rattle.ktm_base.specs.Disk.{DiskState, DiskStatus}
use Rattle.ktm_alike.specs.Alike.{mapped_outcome, mapped_present}
use Rattle.ktm_content.specs.Places.{byte_at}
use Rattle.ktm_core.specs.Answers.{CoreLeaves, asked_completes, asked_owes_more, asked_writes}
use Rattle.ktm_core.specs.Asked.{Asked}
use Rattle.ktm_core.specs.Asked.TheVariants.{Call, Tick, Units}
use Rattle.ktm_core.specs.Core.{AreSoundFiles, IsSoundFor}
use Rattle.ktm_core.specs.Done.{fallen}
use Rattle.ktm_core.specs.Reading.{Agrees}
use Rattle.ktm_core.specs.declared.reading.ReadFault.{ReadFault}
use Rattle.ktm_core.specs.declared.reading.ReadFault.TheVariants.{Down, NoMemory as OutOfMemory}
use Rattle.ktm_core.specs.Route.{AskedPutsBy, CanBeAsked, decided}
use Rattle.ktm_core.specs.Stored.{AreFilesHeld, units_put}
use Rattle.ktm_each.specs.Each.{EachOfFiles}
use Rattle.ktm_journal.specs.Image.{page_count}
use Rattle.ktm_log.specs.OnDisk.{OnDisk, on}
use Rattle.ktm_page.specs.Row.{page_of}
use Rattle.ktm_standing.specs.Standing.{IsStandingNow}
use Rattle.ktm_store.specs.Marks.{MarksState, is_held}
use Rattle.ktm_store.specs.Pool.{FilledPages, Shows, TookPages, on_row}
use Rattle.ktm_store.specs.Store.{IsStoredAt, IsTouched, PoolState, StoreState, page_at}
use Rattle.ktm_store.specs.Stored.{is_stored}
use Rattle.ktm_units.specs.Units.{IsSameOutcome}
use Rattle.ktm_world.specs.declared.command.Command.TheVariants.{WriteUnits}
use Rattle.ktm_world.specs.declared.command.Line.{Line}
use Rattle.ktm_world.specs.declared.command.Line.TheVariants.{Process, Tick as TickLine}
use Rattle.ktm_world.specs.declared.reply.Reply.{Reply}
use Rattle.ktm_world.specs.declared.reply.Reply.TheVariants.{Refused}
use Rattle.ktm_world.specs.Files.{FilesNow}
use Rattle.ktm_world.specs.Outcome.{Outcome, only_reply}
use Rattle.ktm_world.specs.Present.{Present}
use Rattle.ktm_kernel.specs.Answers.{completes_line, line_owes_more, line_writes, no_byte}
use Rattle.ktm_kernel.specs.Done.{units_written}
use Rattle.ktm_kernel.specs.Reserved.{is_by_line, line_closes}
use Rattle.ktm_kernel.specs.Stands.{IsReady, KernelState, core_on}
use Rattle.ktm_kernel.specs.declared.staging.Staged.{Staged}
use Rattle.ktm_kernel.specs.declared.staging.Staged.TheVariants.{Ask, Refuse}

-- ---- pages

-- is the place none, or is its page held
abbrev pub is_held_at : MarksState → ℕ → ℕ → ℕ → Bool
is_held_at marks file index place = place == 0 || is_held marks.held (page_at place)

-- pages may be filled: what is so stands, each place of its files is that of one byte of one file, on a page that is held, and none waits to be written
pub record MayStage (x : Present) (units : ℕ) (pool : PoolState) : Type 0 where
  pub standing : IsStandingNow x
  pub recorded : x.recorded.units ≡ units
  pub count : length pool.marks.held ≡ page_count units
  pub sound : AreSoundFiles (page_count units) x.files
  pub held : AreFilesHeld pool x.files
  pub wanted : pool.wanted ≡ []

-- the places of these files have the bytes that they had, on pages that are held, and stored where they were; and no page that changed is stored
pub record KeepsContents (files : FilesNow) (old new : StoreState) : Type 0 where
  pub count : length new.marks.held ≡ length old.marks.held
  pub seen : EachOfFiles (λ file index place. byte_at new.seen place ≡ byte_at old.seen place) files
  pub held : AreFilesHeld new files
  pub stored : EachOfFiles (λ file index place. IsStoredAt old.stored place → IsStoredAt new.stored place) files
  pub as_were : (page : ℕ) → is_stored new.stored page ≡ true → (is_stored old.stored page ≡ true) × (page_of new.seen page ≡ page_of old.seen page)
  pub wanted : new.wanted ≡ old.wanted

-- a disk that agrees with a row that was shown agrees with one that is shown now, which kept the contents of these files, and of which this is so
abbrev pub KeepsRows : FilesNow → ℕ → Option DiskState → PoolState → PoolState → (List ℕ → Type 0) → Type 0
KeepsRows files units told old new then = (row : List ℕ) → Shows old row → Agrees units old row told
    → (later : List ℕ) × Shows new later × KeepsContents files (on_row old row) (on_row new later) × then later

-- there are as many pages, the places of these files are on pages that are held, and as many wait to be written
pub record KeepsPlaces (files : FilesNow) (old new : PoolState) : Type 0 where
  pub count : length new.marks.held ≡ length old.marks.held
  pub held : AreFilesHeld new files
  pub wanted : new.wanted ≡ old.wanted

-- pages may have come into memory, or may be there no longer, and nothing else has changed
pub record KeepsMarks (old new : PoolState) : Type 0 where
  pub marks : new.marks ≡ old.marks
  pub stored : new.stored ≡ old.stored
  pub wanted : new.wanted ≡ old.wanted

-- ---- what is read of the pages that change

-- did the disk go down
abbrev pub went_down : {T : Type 0} → Result T ReadFault → Bool
went_down (Ok value) = false
went_down (Err Down) = true
went_down (Err OutOfMemory) = false

-- the fact, where it was out of memory
abbrev pub IfOutOfMemory : {T : Type 0} → Result T ReadFault → Type 0 → Type 0
IfOutOfMemory (Ok value) P = Unit {0}
IfOutOfMemory (Err Down) P = Unit {0}
IfOutOfMemory (Err OutOfMemory) P = P

-- a part was put on pages that were free, from this offset on
pub record IsFilled (after : List ℕ → List ℕ) (at end many : ℕ) (places : List ℕ) (units : ℕ) (told : Option DiskState) (old new : PoolState) (start : ℕ) (part : List ℕ) : Type 0 where
  pub took : TookPages many places old new start part
  pub touched : IsTouched (length places) at end start part
  pub rows : (row : List ℕ) → Shows old row → Agrees units old row told → (then : List ℕ) × FilledPages after places old new start part row then

-- nothing was put
pub record IsUnfilled (units : ℕ) (told : Option DiskState) (old new : PoolState) : Type 0 where
  pub keeps : KeepsMarks old new
  pub rows : (row : List ℕ) → Shows old row → Agrees units old row told → Shows new row

-- ---- what is asked for a line

-- an outcome over places comes to one over the bytes, and puts no more units than that one writes
pub record IsOverPlaces (f : ℕ → ℕ) (x : Present) (o asked : Outcome) : Type 0 where
  pub same : IsSameOutcome f x o asked
  pub few : units_put o.events ≤ units_written (mapped_present f x) asked.events

-- the line of what is asked, over places
abbrev pub line_of : Asked → Line
line_of (Call process command) = Process process command
line_of (Units process file start contents extent) = Process process (WriteUnits file start contents)
line_of (Tick ms) = TickLine ms

-- this can be asked for a line that comes to the outcome over places: its places are sound and held, and it comes to the same but for the bytes
pub record MayAsk (x : Present) (pool : PoolState) (line : Line) (o : Outcome) (asked : Asked) : Type 0 where
  pub can : CanBeAsked x asked
  pub sound : IsSoundFor (length pool.marks.held) x asked
  pub held : AskedPutsBy x (is_held_at pool.marks) asked
  pub zeros : IsOverPlaces no_byte x (decided x asked) (mapped_outcome no_byte o)
  pub completes : asked_completes asked ≡ completes_line line
  pub owes : asked_owes_more asked ≡ line_owes_more line
  pub writes : asked_writes asked ≡ true → line_writes line ≡ true
  pub by : (id : Id) → is_by_line x (line_of asked) id ≡ is_by_line x line id
  pub closes : line_closes (line_of asked) ≡ line_closes line

-- what was staged comes to what is decided over the bytes of a row
abbrev pub ComesTo : Present → (Present → Outcome) → Result Staged ReadFault → List ℕ → Type 0
ComesTo x decides (Ok (Ask asked)) row = IsOverPlaces (byte_at row) x (decided x asked) (decides (mapped_present (byte_at row) x))
ComesTo x decides (Ok (Refuse refusal)) row = IsSameOutcome (byte_at row) x (only_reply x (Refused refusal)) (decides (mapped_present (byte_at row) x))
ComesTo x decides (Err fault) row = Unit {0}

-- what was staged may be asked, and nothing refuses it, nor what there was no memory for; what is refused was refused before a page was read
abbrev pub MayBeAsked : Present → PoolState → Line → Outcome → Option Refusal → DiskStatus → DiskStatus → Result Staged ReadFault → Type 0
MayBeAsked x pool line o refused before after (Ok (Ask asked)) = MayAsk x pool line o asked × (refused ≡ None)
MayBeAsked x pool line o refused before after (Ok (Refuse refusal)) = (o ≡ only_reply x (Refused refusal)) × (after ≡ before)
MayBeAsked x pool line o refused before after (Err Down) = Unit {0}
MayBeAsked x pool line o refused before after (Err OutOfMemory) = refused ≡ None

-- ---- what is answered

-- what may be asked of the machine can be, over places that are sound and held
abbrev pub IsAskable : KernelState → Result Staged ReadFault → Type 0
IsAskable k (Ok (Ask asked)) = CanBeAsked k.now asked × IsSoundFor (page_count k.journal.units) k.now asked × AskedPutsBy k.now (is_held_at k.pool.marks) asked
IsAskable k staged = Unit {0}

-- the fact, where something is to be asked
abbrev pub IfAsks : Result Staged ReadFault → Type 0 → Type 0
IfAsks (Ok (Ask asked)) P = P
IfAsks staged P = Unit {0}

-- what is asked was answered, for each row that the pages in memory show, which they show still
pub record WasAsked (asked : Asked) (old new : OnDisk KernelState) (r : Result Reply NoMemory) : Type 0 where
  pub leaves : (row : List ℕ) → Shows old.it.pool row → CoreLeaves old.it.now asked (on (core_on old.it row) old.told old.status) (on (core_on new.it row) new.told new.status) r
  pub seen : new.it.pool.seen ≡ old.it.pool.seen
  pub marks : new.it.pool.marks ≡ old.it.pool.marks
  pub rows : (row : List ℕ) × Shows old.it.pool row
  pub ready : OnOk r (IsReady new.it new.told new.status)
  -- out of memory there is room for no fewer notifications, and all else is as it was
  pub same : OnErr r ((new.it ≡ record old.it { slots = new.it.slots }) × (old.it.slots ≤ new.it.slots))

-- the reply, if there was memory for one
abbrev pub reply_of : Result Reply NoMemory → Option Reply
reply_of (Ok reply) = Some reply
reply_of (Err fault) = None

-- the machine answered so, or had no memory, and nothing changed but that it may be down
pub record WasAnswered (now : Present) (reply : Option Reply) (old new : OnDisk KernelState) (r : Result Reply NoMemory) : Type 0 where
  pub says : reply_of r ≡ reply
  pub it : new.it ≡ record old.it { now = now }
  pub told : new.told ≡ old.told
  pub status : new.status ≡ old.status

-- what was staged was asked, or the machine answered why it was not
abbrev pub AskLeaves : Result Staged ReadFault → OnDisk KernelState → OnDisk KernelState → Result Reply NoMemory → Type 0
AskLeaves (Ok (Ask asked)) old new r = WasAsked asked old new r
AskLeaves (Ok (Refuse refusal)) old new r = WasAnswered old.it.now (Some (Refused refusal)) old new r
AskLeaves (Err Down) old new r = WasAnswered (fallen old.it.now) (Some (Refused MachineDown)) old new r
AskLeaves (Err OutOfMemory) old new r = WasAnswered old.it.now None old new r
