-- From what is asked to what is routed.
use Rattle.std.proofs.Common.{◌≡◌, ℕ, Bool, false, Option, Result, Ok, Err, IfOk, refl, sym, subst, ◌∙◌}
use Rattle.std.proofs.lemmas.Bool.{true≢false}
use Rattle.ktm_base.specs.declared.id.Id.{Id}
use Rattle.ktm_base.specs.declared.id.Pid.{Pid}
use Rattle.ktm_base.specs.declared.refusal.Refusal.{Refusal}
use Rattle.ktm_world.specs.declared.command.Command.{Command}
use Rattle.ktm_world.specs.declared.command.Command.TheVariants.{WriteUnits}
use Rattle.ktm_world.specs.Values.{IsCommand, IsGiven}
use Rattle.ktm_world.specs.Decide.{decide}
use Rattle.ktm_world.specs.Files.{FilesNow}
use Rattle.ktm_world.specs.Present.{Present}
use Rattle.txf_calls.specs.declared.call.FileCall.{FileCall}
use Rattle.txf_calls.specs.declared.call.FileCall.TheVariants.{Write, WriteUnits as PutUnits}
use Rattle.ktm_memory.specs.Routed.{IsReadyFor}
use Rattle.ktm_each.specs.Each.{EachOfFiles, EachOfGroup}
use Rattle.ktm_world.specs.Logs.{Group}
use Rattle.ktm_memory.specs.Rules.{CallPutsBy, Follows, KeepsRules, PutsBy}
use Rattle.ktm_memory.specs.Takes.{routed_takes_memory}
use Rattle.ktm_memory.specs.Units.{NeedsNoPages}
use Rattle.ktm_memory.specs.declared.routed.Routed.{Routed}
use Rattle.ktm_memory.specs.declared.routed.Routed.TheVariants.{Files, Units}
use Rattle.ktm_route.specs.Route.{NeedsNoBytes, Routes, is_put_of_units, puts_units, routed_outcome}
use Rattle.ktm_route.specs.Takes.{takes_memory}

-- a command of the grammar is one that a machine is given
pub given : (command : Command) → IsCommand command → IsGiven command
given (WriteUnits file start contents) is = absurd is
given command is = is

-- what needs no bytes puts no units
pub no_units : (x : Present) (process : Pid) (command : Command) → NeedsNoBytes x process command → is_put_of_units command ≡ false
no_units x process (WriteUnits file start contents) none = absurd none
no_units x process command none = refl

-- ---- by what came of a command

module _ (x : Present) (process : Pid) (command : Command) where
  pub comes_to : (r : Result Routed Refusal) → Routes x process command r → decide x process command ≡ routed_outcome x process r
  comes_to (Ok routed) is = is.0
  comes_to (Err refusal) is = is

  pub ready_for : (r : Result Routed Refusal) → Routes x process command r → IfOk r (IsReadyFor x process)
  ready_for (Ok routed) is = is.1
  ready_for (Err refusal) is = tt

  pub takes_none : (r : Result Routed Refusal) → Routes x process command r → takes_memory x process command ≡ false → IfOk r (λ routed. routed_takes_memory x routed ≡ false)
  takes_none (Ok routed) is none = sym is.2 ∙ none
  takes_none (Err refusal) is none = tt

-- ---- the places that are put

call-puts-none : (files : FilesNow) (who : Option Id) (call : FileCall) → NeedsNoPages files who call → (rule : ℕ → ℕ → ℕ → Bool) → CallPutsBy rule call
call-puts-none files who (Write file offset bytes) none rule = rw none tt
call-puts-none files who (PutUnits file start contents) none rule = rw none tt
call-puts-none files who call none rule = tt

puts-none : (x : Present) (process : Pid) (routed : Routed) → IsReadyFor x process routed → puts_units routed ≡ false → (rule : ℕ → ℕ → ℕ → Bool) → PutsBy rule routed
puts-none x process (Files who label call) ready none rule = call-puts-none x.files who call ready.suits rule
puts-none x process (Units who file start contents extent) ready none rule = absurd (true≢false none)
puts-none x process routed ready none rule = tt

-- a command that needs no bytes puts no place
pub puts_no_place : (x : Present) (process : Pid) (command : Command) (r : Result Routed Refusal) → NeedsNoBytes x process command → Routes x process command r → (rule : ℕ → ℕ → ℕ → Bool) → IfOk r (PutsBy rule)
puts_no_place x process command (Ok routed) none is rule = puts-none x process routed is.1 (is.3 ∙ no_units x process command none) rule
puts_no_place x process command (Err refusal) none is rule = tt

-- what keeps the rules by what a call puts keeps them by what is asked, and for the same events
pub rules_kept : {D E : Type 0} (r : Result D E) (puts asked : (ℕ → ℕ → ℕ → Bool) → Type 0) (old new : FilesNow) {events same : Group} → ((rule : ℕ → ℕ → ℕ → Bool) → asked rule → puts rule) → events ≡ same
    → IfOk r (λ d. KeepsRules puts old events new) → IfOk r (λ d. KeepsRules asked old same new)
rules_kept (Ok d) puts asked old new implies is keeps = λ rule none each put. subst (λ events. EachOfGroup (Follows rule) events × EachOfFiles (Follows rule) new) is (keeps rule none each (implies rule put))
rules_kept (Err e) puts asked old new implies is keeps = tt
