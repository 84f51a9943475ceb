-- What is read at a place of the bytes, where reading may run out of memory.
use Rattle.std.specs.Prelude.{ℕ, List, ◌∷◌, Result, Ok, Err, None}
use Rattle.ktm_base.specs.declared.id.Id.{Id}
use Rattle.ktm_base.specs.Grammar.{IsTextOf}
use Rattle.ktm_codec.specs.Spans.{Spans, Reads}
use Rattle.ktm_world.specs.EventGrammar.{IsRecordOf}
use Rattle.ktm_world.specs.Values.{IsText}
use Rattle.ktm_event.specs.declared.fault.EventFault.{EventFault}
use Rattle.ktm_event.specs.declared.fault.EventFault.TheVariants.{NotAnEvent, NoMemory}

-- the thing that is read is spelled between the place and the one that is answered; it is refused only where nothing of its kind is spelled from the place on
abbrev pub Gives : {X : Type 0} → (X → List ℕ → Type 0) → List ℕ → ℕ → Result (X × ℕ) EventFault → Type 0
Gives Form bytes at (Ok (x, end)) = Spans (Form x) bytes at end
Gives Form bytes at (Err NotAnEvent) = Reads Form bytes at None
Gives Form bytes at (Err NoMemory) = Unit {0}

-- what stands behind this tag in the spelling of a thing
abbrev pub Behind : {X : Type 0} → (X → List ℕ → Type 0) → ℕ → X → List ℕ → Type 0
Behind Form tag x bytes = Form x (tag ∷ bytes)

-- a key has the characters of a text, and its length in one byte before it
pub record IsKeyOf (key bytes : List ℕ) : Type 0 where
  pub text : IsText key
  pub spelled : IsTextOf key bytes

-- an enlistment, its resource manager and its recovery information, as one thing
abbrev pub IsRecordedOf : Id × Id × List ℕ → List ℕ → Type 0
IsRecordedOf (enlistment, manager, information) = IsRecordOf enlistment manager information
