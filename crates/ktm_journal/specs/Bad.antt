-- Bytes that begin no image.
use Rattle.std.specs.Prelude.{ℕ, false, List, Result, Ok, Err, Bool, true}
use Rattle.ktm_journal.specs.declared.fault.LoadFault.{LoadFault}
use Rattle.ktm_journal.specs.declared.fault.LoadFault.TheVariants.{Down, Bad, NoMemory}
use Rattle.ktm_journal.specs.declared.half.Half.{Half}
use Rattle.ktm_journal.specs.Image.{HasSnapshot, IsHeaded}

-- there is no header, or the bytes are too short for it
abbrev pub HasNoHeader : List ℕ → Type 0
HasNoHeader bytes = (units image selector : ℕ) → ¬ IsHeaded units image selector bytes

-- the half has no snapshot: its length is not marked, or it would be longer than its area
abbrev pub HasNoSnapshot : ℕ → Half → List ℕ → Type 0
HasNoSnapshot units half bytes = (snapshot : List ℕ) → ¬ HasSnapshot units half snapshot bytes

-- did a load find the disk down
abbrev pub load_went_down : {T : Type 0} → Result T LoadFault → Bool
load_went_down (Ok value) = false
load_went_down (Err Down) = true
load_went_down (Err (Bad offset)) = false
load_went_down (Err NoMemory) = false
