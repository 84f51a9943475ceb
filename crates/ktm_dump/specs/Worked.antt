-- Worked examples of the text: the state of an image that just started, and one with something of each kind.
use Rattle.std.specs.Prelude.{◌≡◌, ℕ, List, [], ◌∷◌, ◌++◌, Some, None, codes, flat_map}
use Rattle.ktm_base.specs.declared.id.Id.{Id}
use Rattle.ktm_dump.specs.Text.{state_text}
use Rattle.ktm_dump.specs.Written.{newline}
use Rattle.ktm_world.specs.declared.recorded.Stage.{Stage}
use Rattle.ktm_world.specs.declared.recorded.Stage.TheVariants.{Ready, Held, Decided}
use Rattle.ktm_world.specs.Durable.{Durable, Recorded, empty_state}

-- lines, each of which ends with a newline
abbrev pub lines : List (List ℕ) → List ℕ
lines texts = flat_map (λ text. text ++ newline ∷ []) texts

-- a new image whose machine started once
abbrev pub started : Durable
started = record (empty_state 1024 1) { events = 1; boots = 1 }

-- an object of a boot, by its number
abbrev pub object : ℕ → ℕ → Id
object boot number = record { boot = boot; number = number }

-- a transaction at this stage, of which nothing else is written
abbrev pub transaction : Id → Stage → Recorded
transaction id stage = record { id = id; stage = stage; superior = None; parts = [] }

-- an image of 16 units with the number 171: two managers, transactions at each stage, directories and files in one another, and keys
abbrev pub full : Durable
full = record {
  units = 16;
  image = 171;
  events = 1000000;
  boots = 12;
  next_node = 9;
  tree =
      record { number = 2; parent = 5; name = codes "note"; content = Some (104 ∷ 105 ∷ []) }
      ∷ record { number = 3; parent = 1; name = codes "A"; content = None }
      ∷ record { number = 5; parent = 3; name = codes "b c"; content = None }
      ∷ record { number = 8; parent = 1; name = codes "empty"; content = Some [] }
      ∷ [];
  keys = record { key = codes "K"; value = [] } ∷ record { key = codes "key"; value = 0 ∷ 10 ∷ 255 ∷ [] } ∷ [];
  managers = object 1 1 ∷ object 12 52719 ∷ [];
  transactions = transaction (object 11 1) Held ∷ transaction (object 12 2) Ready ∷ transaction (object 12 3) Decided ∷ [];
}

-- the text of each of the two
pub record AreWrittenSo : Type 0 where
  pub of_started : state_text started ≡ lines (codes "layout=3 units=1024 events=1 boots=1" ∷ [])
  pub of_full : state_text full ≡ lines (
      codes "layout=3 units=16 events=1000000 boots=12"
      ∷ codes "rm 00000001-0002-00ab-0000-000000000001"
      ∷ codes "rm 0000000c-0002-00ab-0000-00000000cdef"
      ∷ codes "held 0000000b-0001-00ab-0000-000000000001"
      ∷ codes "committing 0000000c-0001-00ab-0000-000000000003"
      ∷ codes "file \"\\A\\b c\\note\" 2"
      ∷ codes "dir \"\\A\""
      ∷ codes "dir \"\\A\\b c\""
      ∷ codes "file \"\\empty\" 0"
      ∷ codes "key \"K\" -"
      ∷ codes "key \"key\" 000aff"
      ∷ [])
