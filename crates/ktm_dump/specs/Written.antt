-- What a sink took of a text, and what waits to be written to it.
use Rattle.std.specs.Prelude.{◌≡◌, ℕ, ◌≤◌, List, ◌++◌, Option, Result, Ok, Err}
use Rattle.std.specs.Io.KnownBytes.{Appends}
use Rattle.ktm_base.specs.declared.fault.Failed.{Failed}
use Rattle.ktm_base.specs.Count.{Rose}

-- what ends a line
abbrev pub newline : ℕ
newline = 10

-- a sink took a part of the bytes, from their front
abbrev pub AppendsPart : Option (List ℕ) → Option (List ℕ) → List ℕ → Type 0
AppendsPart old new bytes = (part : List ℕ) × (rest : List ℕ) × (bytes ≡ part ++ rest) × Appends old new part

-- ---- a text that is collected before it is written. No public clause cites what follows.

-- what a sink took, how often it failed, and what waits to be written to it
pub record Out : Type 0 where
  pub taken : Option (List ℕ)
  pub faults : ℕ
  pub waits : List ℕ

-- the sink with these parts
abbrev pub out : Option (List ℕ) → ℕ → List ℕ → Out
out taken faults waits = record { taken = taken; faults = faults; waits = waits }

-- the text comes behind what waited: a part of both was written, and the rest waits
pub record IsPut (old new : Out) (text : List ℕ) : Type 0 where
  pub part : List ℕ
  pub wrote : Appends old.taken new.taken part
  pub rest : old.waits ++ text ≡ part ++ new.waits
  pub later : old.faults ≤ new.faults

-- the sink failed, which took a part of what waited with the text behind it
pub record IsBroken (old new : Out) (text : List ℕ) : Type 0 where
  pub wrote : AppendsPart old.taken new.taken (old.waits ++ text)
  pub fault : Rose old.faults new.faults
  pub later : old.faults ≤ new.faults

-- what is left where a text was put behind what waits
abbrev pub Puts : Out → Out → List ℕ → Result (Unit {0}) Failed → Type 0
Puts old new text (Ok done) = IsPut old new text
Puts old new text (Err failed) = IsBroken old new text
