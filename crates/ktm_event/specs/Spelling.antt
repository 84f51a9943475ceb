-- Which events and groups have bytes.
use Rattle.std.specs.Prelude.{ℕ, ◌<◌, ◌≤◌, ◌^◌, List, length, Option, All, IfSome, IsTrue}
use Rattle.ktm_base.specs.declared.id.Id.{Id}
use Rattle.ktm_world.specs.declared.change.Change.{Change}
use Rattle.ktm_world.specs.declared.change.Change.TheVariants.{Make, Put, Cut, Move, Drop}
use Rattle.ktm_world.specs.declared.change.Contents.{Contents}
use Rattle.ktm_world.specs.declared.change.Contents.TheVariants.{Whole, Paged}
use Rattle.ktm_keyed.specs.declared.keyed.Keyed.{Keyed}
use Rattle.ktm_world.specs.declared.event.Part.{Part}
use Rattle.ktm_world.specs.declared.event.Part.TheVariants.{Enlistment, Changes, Settings}
use Rattle.ktm_world.specs.declared.event.DonePart.{DonePart}
use Rattle.ktm_world.specs.declared.event.DonePart.TheVariants.{Files, Keys}
use Rattle.ktm_world.specs.declared.event.Event.{Event}
use Rattle.ktm_world.specs.declared.event.Event.TheVariants.{Boot, MadeRm, Plain, Ready, Single, Held, Decide, Undo}
use Rattle.ktm_keyed.specs.Keyed.{is_rising}
use Rattle.ktm_world.specs.Values.{IsText}

-- an Id's numbers are at least 1
pub record IsSpellableId (id : Id) : Type 0 where
  pub boot_from : 1 ≤ id.boot
  pub number_from : 1 ≤ id.number

-- a key has the characters of a text and its length fits one byte, and a value's length fits two
pub record IsSpellableSetting (setting : Keyed (Option (List ℕ))) : Type 0 where
  pub text : IsText setting.key
  pub short_key : length setting.key < 2 ^ 8
  pub short_value : IfSome setting.value (λ bytes. length bytes < 2 ^ 16)

-- their keys rise, and their count fits four bytes
pub record AreSpellableSettings (settings : List (Keyed (Option (List ℕ)))) : Type 0 where
  pub rising : IsTrue (is_rising settings)
  pub few : length settings < 2 ^ 32
  pub each : All IsSpellableSetting settings

-- the count of pages fits four bytes, and so does the number of each
pub record AreSpellablePages (pages : List ℕ) : Type 0 where
  pub few : length pages < 2 ^ 32
  pub each : All (λ page. page < 2 ^ 32) pages

-- there is one byte at least, and their count fits four bytes; bytes that stand as they are have no spelling of their own, but that of their pages
abbrev pub IsSpellableContents : Contents → Type 0
IsSpellableContents (Whole bytes) = (1 ≤ length bytes) × (length bytes < 2 ^ 32)
IsSpellableContents (Paged len pages) = (1 ≤ len) × (len < 2 ^ 32) × AreSpellablePages pages

-- contents that are recorded stand on pages
abbrev pub StandOnPages : Contents → Type 0
StandOnPages (Whole bytes) = ⊥
StandOnPages (Paged len pages) = Unit {0}

-- a name's length fits one byte
abbrev pub IsSpellableChange : Change → Type 0
IsSpellableChange (Make node parent kind name) = length name < 2 ^ 8
IsSpellableChange (Put node offset contents) = IsSpellableContents contents
IsSpellableChange (Cut node size pages) = AreSpellablePages pages
IsSpellableChange (Move node parent name) = length name < 2 ^ 8
IsSpellableChange (Drop node) = Unit {0}

-- a change that is recorded puts no contents but such as stand on pages
abbrev pub IsRecordableChange : Change → Type 0
IsRecordableChange (Put node offset contents) = StandOnPages contents
IsRecordableChange _ = Unit {0}

-- their count fits four bytes
pub record AreSpellableChanges (changes : List Change) : Type 0 where
  pub few : length changes < 2 ^ 32
  pub each : All IsSpellableChange changes

-- the length of an enlistment's recovery information fits one byte
pub record IsSpellableRecord (enlistment manager : Id) (information : List ℕ) : Type 0 where
  pub enlisted : IsSpellableId enlistment
  pub managed : IsSpellableId manager
  pub short : length information < 2 ^ 8

-- a part that has bytes: an enlistment, or a list
abbrev pub IsSpellablePart : Part → Type 0
IsSpellablePart (Enlistment enlistment manager information) = IsSpellableRecord enlistment manager information
IsSpellablePart (Changes changes) = AreSpellableChanges changes
IsSpellablePart (Settings settings) = AreSpellableSettings settings

-- a part that is recorded puts none either
abbrev pub IsRecordablePart : Part → Type 0
IsRecordablePart (Changes changes) = All IsRecordableChange changes
IsRecordablePart _ = Unit {0}

-- the part of a transaction that has this one alone is no enlistment's
abbrev pub IsSpellableSole : Part → Type 0
IsSpellableSole (Enlistment enlistment manager information) = ⊥
IsSpellableSole (Changes changes) = AreSpellableChanges changes
IsSpellableSole (Settings settings) = AreSpellableSettings settings

-- who is done has bytes where its Id has
abbrev pub IsSpellableDone : DonePart → Type 0
IsSpellableDone (DonePart.Enlistment enlistment) = IsSpellableId enlistment
IsSpellableDone Files = Unit {0}
IsSpellableDone Keys = Unit {0}

-- an event whose parts each have bytes
abbrev pub IsSpellableEvent : Event → Type 0
IsSpellableEvent (Boot boot) = Unit {0}
IsSpellableEvent (MadeRm manager) = IsSpellableId manager
IsSpellableEvent (Plain change) = IsSpellableChange change
IsSpellableEvent (Ready transaction part) = IsSpellableId transaction × IsSpellablePart part
IsSpellableEvent (Single transaction part) = IsSpellableId transaction × IsSpellableSole part
IsSpellableEvent (Held transaction enlistment manager information) = IsSpellableId transaction × IsSpellableRecord enlistment manager information
IsSpellableEvent (Decide transaction) = IsSpellableId transaction
IsSpellableEvent (Undo transaction) = IsSpellableId transaction
IsSpellableEvent (Event.Done transaction done) = IsSpellableId transaction × IsSpellableDone done

-- an event that is recorded puts none either
abbrev pub IsRecordable : Event → Type 0
IsRecordable (Plain change) = IsRecordableChange change
IsRecordable (Ready transaction part) = IsRecordablePart part
IsRecordable (Single transaction part) = IsRecordablePart part
IsRecordable _ = Unit {0}

-- there is one at least, and their count fits four bytes
pub record AreSpellableEvents (events : List Event) : Type 0 where
  pub some : 1 ≤ length events
  pub few : length events < 2 ^ 32
  pub each : All IsSpellableEvent events
