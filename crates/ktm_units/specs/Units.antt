-- Writes of bytes, and puts of units over places, that come to alike with the byte at each place.
use Rattle.std.specs.Prelude.{◌≡◌, ◌⊎◌, ℕ, ◌≤◌, true, List, [], ◌∷◌, length, map, Some, ⊤}
use Rattle.ktm_base.specs.declared.id.Label.{Label}
use Rattle.ktm_base.specs.declared.id.Pid.{Pid}
use Rattle.ktm_base.specs.declared.limits.TheConstants.{MOST_AT_ONCE}
use Rattle.ktm_world.specs.declared.change.Change.{Change}
use Rattle.ktm_world.specs.declared.command.Command.{Command}
use Rattle.ktm_world.specs.declared.command.Command.TheVariants.{ReadFile, WriteFile, SetEndOfFile, WriteUnits}
use Rattle.ktm_world.specs.declared.event.Event.TheVariants.{Plain}
use Rattle.ktm_world.specs.Changes.{changes_bytes}
use Rattle.ktm_world.specs.Decide.{decide, refusal_of}
use Rattle.ktm_world.specs.Files.{OpenFile, bytes_seen}
use Rattle.ktm_world.specs.Labels.{file_named}
use Rattle.ktm_world.specs.Logs.{Group}
use Rattle.ktm_world.specs.Outcome.{Outcome, apply}
use Rattle.ktm_world.specs.Present.{Present}
use Rattle.ktm_world.specs.Tree.{cut_to, numbers_rise, put_over}
use Rattle.ktm_world.specs.World.{decide_tick}
use Rattle.ktm_mapped.specs.Mapped.{IsBlank, mapped_group}
use Rattle.ktm_alike.specs.Alike.{mapped_present, mapped_read}
use Rattle.ktm_each.specs.Each.{EachOfDurable, EachOfFiles}

-- ---- what is so

-- both give the same for a byte
abbrev pub Agree : (ℕ → ℕ) → (ℕ → ℕ) → ℕ → ℕ → ℕ → Type 0
Agree f g file index byte = f byte ≡ g byte

-- what is so is the same with either bytes in the place of the places, where both give the same for each place
abbrev pub SeenLaw : Type 0
SeenLaw = (f g : ℕ → ℕ) (x : Present) → EachOfFiles (Agree f g) x.files → EachOfDurable (Agree f g) x.recorded → mapped_present f x ≡ mapped_present g x

-- ---- what is asked

-- both are of one plain call that changes the bytes of a file
pub record AreWrites (events asked : Group) : Type 0 where
  pub puts : Change
  pub writes : Change
  pub events_are : events ≡ Plain puts ∷ []
  pub asked_are : asked ≡ Plain writes ∷ []
  pub first : changes_bytes puts ≡ true
  pub second : changes_bytes writes ≡ true

-- events are others with the bytes in the place of the places, or both are writes
abbrev pub AreEventsSame : (ℕ → ℕ) → Group → Group → Type 0
AreEventsSame f events asked = (asked ≡ mapped_group f events) ⊎ AreWrites events asked

-- an outcome leaves, of what is so with the bytes in the place of the places, what another one leaves of the places, and records the same
pub record LeavesSame (f : ℕ → ℕ) (x : Present) (o asked : Outcome) : Type 0 where
  pub comes_to : apply (mapped_present f x) asked ≡ mapped_present f (apply x o)
  pub events : AreEventsSame f o.events asked.events

-- it has the same reply too
pub record IsSameOutcome (f : ℕ → ℕ) (x : Present) (o asked : Outcome) : Type 0 where
  pub reply : asked.reply ≡ o.reply
  pub leaves : LeavesSame f x o asked

-- the command has no bytes of files, and asks for none
abbrev pub IsOfNoBytes : Command → Type 0
IsOfNoBytes (ReadFile file offset many) = ⊥
IsOfNoBytes (WriteFile file offset bytes) = bytes ≡ []
IsOfNoBytes (WriteUnits file start contents) = ⊥
IsOfNoBytes _ = ⊤

-- what is asked of the bytes comes to what it comes to over the places: each command that has no bytes, a read but for the bytes that it tells, and the passing of time
pub record CommandsSame (f : ℕ → ℕ) (x : Present) : Type 0 where
  pub command : (process : Pid) (c : Command) → IsOfNoBytes c → IsSameOutcome f x (decide x process c) (decide (mapped_present f x) process c)
  pub read : (process : Pid) (file : Label) (offset many : ℕ) → LeavesSame f x (decide x process (ReadFile file offset many)) (decide (mapped_present f x) process (ReadFile file offset many))
      × ((decide (mapped_present f x) process (ReadFile file offset many)).reply ≡ mapped_read f (decide x process (ReadFile file offset many)).reply)
  pub tick : (ms : ℕ) → IsSameOutcome f x (decide_tick x ms) (decide_tick (mapped_present f x) ms)
  -- whatever bytes are written, the same refuses the write
  pub refused : (process : Pid) (file : Label) (offset : ℕ) (bytes : List ℕ) → refusal_of (mapped_present f x) process (WriteFile file offset bytes) ≡ refusal_of x process (WriteFile file offset bytes)

-- the committed files are those that were recorded, and no two nodes have one number
pub record IsRecordedTree (x : Present) : Type 0 where
  pub rise : numbers_rise x.files.tree ≡ true
  pub recorded : x.recorded.tree ≡ x.files.tree

-- putting units into the file comes to what writing bytes comes to, and what making the file longer comes to, where the units have what that makes of the bytes
pub record WritesSame (f : ℕ → ℕ) (x : Present) (process : Pid) (file : Label) (o : OpenFile) : Type 0 where
  pub write : (start offset : ℕ) (contents bytes : List ℕ) → 1 ≤ length contents → 1 ≤ length bytes → length bytes ≤ MOST_AT_ONCE
      → map f (put_over (bytes_seen x.files o.transaction o.node) start contents) ≡ put_over (map f (bytes_seen x.files o.transaction o.node)) offset bytes
      → IsSameOutcome f x (decide x process (WriteUnits file start contents)) (decide (mapped_present f x) process (WriteFile file offset bytes))
  pub grow : (start size : ℕ) (contents : List ℕ) → 1 ≤ length contents
      → map f (put_over (bytes_seen x.files o.transaction o.node) start contents) ≡ cut_to (map f (bytes_seen x.files o.transaction o.node)) size
      → IsSameOutcome f x (decide x process (WriteUnits file start contents)) (decide (mapped_present f x) process (SetEndOfFile file size))

-- what is asked of the bytes comes to what it comes to over the places, writes to what puts of units come to
abbrev pub UnitsLaw : Type 0
UnitsLaw = SeenLaw × ((f : ℕ → ℕ) → IsBlank f → ((x : Present) → CommandsSame f x)
    × ((x : Present) (process : Pid) (file : Label) (o : OpenFile) → IsRecordedTree x → file_named x process file ≡ Some o → WritesSame f x process file o))
