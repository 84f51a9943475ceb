-- What laws and commands give the machine.
use Rattle.std.proofs.Common.{◌≡◌, ℕ, ◌≤◌, true, false, List, [], ◌∷◌, map, Option, Some, None, refl, sym, ◌∙◌, ap, subst}
use Rattle.std.specs.Prelude.{is_none}
use Rattle.ktm_base.specs.declared.id.Label.{Label}
use Rattle.ktm_base.specs.declared.refusal.Refusal.{Refusal}
use Rattle.ktm_core.specs.Stored.{units_put}
use Rattle.ktm_core.specs.Takes.{takes_memory}
use Rattle.ktm_alike.specs.Alike.{mapped_command, mapped_present, mapped_reply}
use Rattle.ktm_alike.specs.Laws.{AlikeLaw}
use Rattle.ktm_base.specs.declared.id.Pid.{Pid}
use Rattle.ktm_mapped.specs.Mapped.{IsBlank, mapped_group}
use Rattle.ktm_paged.specs.Laws.{PagedLaw, RowsSeen, StatesApart}
use Rattle.ktm_world.specs.Groups.{Group}
use Rattle.ktm_world.specs.declared.command.Command.{Command}
use Rattle.ktm_world.specs.declared.command.Command.TheVariants.{ReadFile, SetEndOfFile, WriteFile, WriteUnits}
use Rattle.ktm_world.specs.declared.reply.Reply.{Reply}
use Rattle.ktm_world.specs.Values.{IsCommand, IsGiven}
use Rattle.ktm_units.specs.Units.{IsOfNoBytes, IsSameOutcome, UnitsLaw}
use Rattle.ktm_world.specs.Decide.{decide, refusal_of}
use Rattle.ktm_world.specs.Outcome.{Outcome}
use Rattle.ktm_world.specs.Present.{Present}
use Rattle.ktm_world.specs.World.{decide_tick}
use Rattle.ktm_kernel.specs.Done.{units_written}
use Rattle.ktm_kernel.specs.Staging.{IsOverPlaces}
use Rattle.ktm_kernel.proofs.Sizes.{group-writes}

-- a command of the grammar is one that a machine is given
pub given : (command : Command) → IsCommand command → IsGiven command
given (WriteUnits file start contents) is = absurd is
given command is = is

pub rows-seen : PagedLaw → RowsSeen
rows-seen law = law.5

pub states-apart : PagedLaw → StatesApart
states-apart law = law.6

-- a command that has no bytes is the same with others in the place of its bytes
pub same-command : (f : ℕ → ℕ) (c : Command) → IsOfNoBytes c → mapped_command f c ≡ c
same-command f (WriteFile file offset bytes) none = ap (WriteFile file offset) (ap (map f) none ∙ sym none)
same-command f (WriteUnits file start contents) none = absurd none
same-command f c none = refl

-- and so is the reply to it
pub same-reply : (f : ℕ → ℕ) (c : Command) → IsOfNoBytes c → (reply : Reply) → mapped_reply f c reply ≡ reply
same-reply f (ReadFile file offset many) none reply = absurd none
same-reply f c none reply = refl

-- what comes to the same, and records the same with the bytes in the place of the places
over : (f : ℕ → ℕ) (x : Present) (o asked : Outcome) → IsSameOutcome f x o asked → asked.events ≡ mapped_group f o.events → IsOverPlaces f x o asked
over f x o asked same is = record { same = same; few = subst (λ (events : Group). units_put o.events ≤ units_written (mapped_present f x) events) (sym is) (group-writes f (mapped_present f x) o.events) }

module _ (law : UnitsLaw) (alike : AlikeLaw) (f : ℕ → ℕ) (blank : IsBlank f) (x : Present) where
  -- a command that has no bytes
  pub command-over : (process : Pid) (c : Command) → IsOfNoBytes c → IsOverPlaces f x (decide x process c) (decide (mapped_present f x) process c)
  command-over process c none = over f x (decide x process c) (decide (mapped_present f x) process c) (((law.1 f blank).0 x).command process c none)
      (ap (λ (o : Outcome). o.events) (ap (decide (mapped_present f x) process) (sym (same-command f c none)) ∙ (alike f blank).0.decided x process c))

  -- the passing of time
  pub tick-over : (ms : ℕ) → IsOverPlaces f x (decide_tick x ms) (decide_tick (mapped_present f x) ms)
  tick-over ms = over f x (decide_tick x ms) (decide_tick (mapped_present f x) ms) (((law.1 f blank).0 x).tick ms) (ap (λ (o : Outcome). o.events) ((alike f blank).0.ticked x ms))

-- a write of some bytes that nothing refuses takes memory
passed-takes : (refused : Option Refusal) → refused ≡ None → is_none refused ≡ true
passed-takes None is = refl
passed-takes (Some refusal) is = absurd (cc)

pub write-takes : (x : Present) (process : Pid) (file : Label) (offset : ℕ) (bytes : List ℕ) → (bytes ≡ [] → false ≡ true) → refusal_of x process (WriteFile file offset bytes) ≡ None → takes_memory x process (WriteFile file offset bytes) ≡ true
write-takes x process file offset [] some passes = (let no : false ≡ true = some refl in absurd (cc))
write-takes x process file offset (b ∷ bs) some passes = passed-takes (refusal_of x process (WriteFile file offset (b ∷ bs))) passes

-- so does an end
pub end-takes : (x : Present) (process : Pid) (file : Label) (size : ℕ) → refusal_of x process (SetEndOfFile file size) ≡ None → takes_memory x process (SetEndOfFile file size) ≡ true
end-takes x process file size passes = passed-takes (refusal_of x process (SetEndOfFile file size)) passes
