-- What a transaction on its way records of what it has to commit, and how many events.
use Rattle.std.specs.Prelude.{⊤, nat_le}
use Rattle.std.proofs.Common.{◌≡◌, ◌≤◌, true, List, [], length, refl, sym, subst, arith}
use Rattle.std.proofs.lemmas.Bool.{leb-true, true≢false}
use Rattle.std.specs.List.{AllByRecursion}
use Rattle.ktm_event.specs.Spelling.{IsSpellableContents}
use Rattle.ktm_world.specs.declared.change.Change.{Change}
use Rattle.ktm_world.specs.declared.change.Change.TheVariants.{Put}
use Rattle.ktm_world.specs.declared.event.Event.{Event}
use Rattle.ktm_world.specs.declared.event.Event.TheVariants.{Plain, Ready, Single}
use Rattle.ktm_world.specs.declared.event.Part.{Part}
use Rattle.ktm_world.specs.declared.event.Part.TheVariants.{Enlistment as EnlistmentPart, Changes, Settings}
use Rattle.ktm_world.specs.declared.input.PhaseInput.{PhaseInput}
use Rattle.ktm_world.specs.declared.step.Step.{Step}
use Rattle.ktm_world.specs.Keys.{OwnSettings}
use Rattle.ktm_world.specs.Phases.{Course}
use Rattle.ktm_world.specs.Rows.{row}
use Rattle.ktm_world.specs.Steps.{basis, events_ahead, led, seen}
use Rattle.ktm_steps.proofs.offered.Lists.{each-row-passes}
use Rattle.ktm_steps.proofs.offered.Recorded.{all-led, few-ahead, led-events, records, bare-facts, is_bare}

-- ---- events

-- the contents of a plain change have bytes
abbrev pub IsSpelledPut : Change → Type 0
IsSpelledPut (Put node offset contents) = IsSpellableContents contents
IsSpelledPut _ = ⊤

module _ (Files : List Change → Type 0) (Keys : OwnSettings → Type 0) (Asked : Type 0) where
  -- a part has changes that are so, or settings that are so, or is an enlistment
  abbrev pub IsOwnPart : Part → Type 0
  IsOwnPart (EnlistmentPart enlistment manager information) = ⊤
  IsOwnPart (Changes changes) = Files changes
  IsOwnPart (Settings settings) = Keys settings

  -- the part of an event is so, and the contents of a plain change have bytes where this is asked
  abbrev pub IsOwnEvent : Event → Type 0
  IsOwnEvent (Plain change) = Asked → IsSpelledPut change
  IsOwnEvent (Ready transaction part) = IsOwnPart part
  IsOwnEvent (Single transaction part) = IsOwnPart part
  IsOwnEvent _ = ⊤

  bare-own : (event : Event) → is_bare event ≡ true → IsOwnEvent event
  bare-own (Plain change) is = absurd (true≢false (sym is))
  bare-own (Ready transaction (Changes changes)) is = absurd (true≢false (sym is))
  bare-own (Ready transaction (Settings settings)) is = absurd (true≢false (sym is))
  bare-own (Single transaction part) is = absurd (true≢false (sym is))
  bare-own _ is = tt

  -- each event that a row records is so, as what there is to commit
  pub own-led : (input : PhaseInput) (c : Course) → c.events ≡ [] → Files c.changes → Keys c.settings → AllByRecursion IsOwnEvent (led input c).events
  own-led input c none files keys = all-led IsOwnEvent input c none (bare-facts IsOwnEvent (basis c) bare-own (files, files) (keys, keys))

-- a row records six events at most
pub few-led : (input : PhaseInput) (c : Course) → c.events ≡ [] → length (led input c).events ≤ 6
few-led input c none = subst (λ es. length es ≤ 6) (sym (led-events input c none)) (few (row (seen c) input) (each-row-passes (λ steps. nat_le (records steps) 6) refl (seen c) input))
  where
    few : (steps : List Step) → nat_le (records steps) 6 ≡ true → length (events_ahead steps (basis c)) ≤ 6
    few steps is = let at_most = few-ahead steps (basis c) in let six = leb-true (records steps) 6 is in omega arith
