-- How many bytes a transaction on its way records: its changes once and its settings once at most, and a few small events.
use Rattle.std.proofs.Common.{◌≡◌, ℕ, ◌+◌, ◌*◌, ◌≤◌, ◌&&◌, Bool, true, false, nat_le, List, [], ◌∷◌, length, sum_by, Option, Some, None, refl, arith, ap}
use Rattle.std.proofs.lemmas.Bool.{and_parts, leb-true}
use Rattle.std.proofs.lemmas.List.Sums.{sum_by-append, sum_by-cons}
use Rattle.std.proofs.Math.Nat.{mul-le-mul_left}
use Rattle.ktm_base.specs.declared.id.Id.{Id}
use Rattle.ktm_base.specs.declared.limits.TheConstants.{MOST_INFORMATION_BYTES}
use Rattle.ktm_world.specs.declared.event.DonePart.{DonePart}
use Rattle.ktm_world.specs.declared.event.Event.{Event}
use Rattle.ktm_world.specs.declared.event.Part.{Part}
use Rattle.ktm_world.specs.declared.input.PhaseInput.{PhaseInput}
use Rattle.ktm_world.specs.declared.step.Fact.{Fact}
use Rattle.ktm_world.specs.declared.step.Step.{Step}
use Rattle.ktm_world.specs.Sizes.{change_size, event_size, setting_size}
use Rattle.ktm_world.specs.Changes.{has_changes}
use Rattle.ktm_world.specs.Enlistments.{Enlistment, Manager, is_durable_at}
use Rattle.ktm_world.specs.Phases.{Course, enlistment_part, event_if, has_settings}
use Rattle.ktm_world.specs.Rows.{row}
use Rattle.ktm_world.specs.Steps.{Basis, basis, event_of_caller, events_ahead, events_of, held_event, is_recorded_by, led, seen}
use Rattle.ktm_steps.proofs.offered.Lists.{each-row-passes}
use Rattle.ktm_steps.proofs.offered.Recorded.{led-events}

-- ---- events

-- the bytes of events
abbrev pub sizes : List Event → ℕ
sizes events = sum_by event_size events

pub one-sized : (event : Event) → sizes (event ∷ []) ≡ event_size event
one-sized event = let one = sum_by-cons event_size event [] in omega (arith, one)

pub if-sized : (is : Bool) (event : Event) → sizes (event_if is event) ≤ event_size event
if-sized true event = let one = one-sized event in omega (arith, one)
if-sized false event = omega arith

-- the recovery information of the enlistment is within the limit, if there is one
abbrev pub IsBrief : Option Enlistment → Type 0
IsBrief o = (e : Enlistment) → o ≡ Some e → length e.information ≤ MOST_INFORMATION_BYTES

-- ---- facts

-- is the fact one of the changes of the files
abbrev of_files : Fact → ℕ
of_files Fact.ReadyFiles = 1
of_files Fact.SingleFiles = 1
of_files _ = 0

-- is it one of the settings of the keys
abbrev of_keys : Fact → ℕ
of_keys Fact.ReadyKeys = 1
of_keys Fact.SingleKeys = 1
of_keys _ = 0

-- the most bytes of it, but for changes and settings
abbrev fact_cost : Fact → ℕ
fact_cost Fact.Ready = 155
fact_cost Fact.Held = 154
fact_cost Fact.Decide = 9
fact_cost Fact.Undo = 9
fact_cost Fact.DoneFiles = 10
fact_cost Fact.DoneKeys = 10
fact_cost Fact.Done = 18
fact_cost _ = 14

-- how often steps record the changes of the files
abbrev pub files_recorded : List Step → ℕ
files_recorded [] = 0
files_recorded (Step.Record fact ∷ steps) = of_files fact + files_recorded steps
files_recorded (_ ∷ steps) = files_recorded steps

-- how often they record the settings of the keys
abbrev pub keys_recorded : List Step → ℕ
keys_recorded [] = 0
keys_recorded (Step.Record fact ∷ steps) = of_keys fact + keys_recorded steps
keys_recorded (_ ∷ steps) = keys_recorded steps

-- the most bytes that they record, but for changes and settings
abbrev pub spent : List Step → ℕ
spent [] = 0
spent (Step.Record fact ∷ steps) = fact_cost fact + spent steps
spent (_ ∷ steps) = spent steps

-- do they record each once at most, and little beside them
abbrev is_lean : List Step → Bool
is_lean steps = nat_le (files_recorded steps) 1 && nat_le (keys_recorded steps) 1 && nat_le (spent steps) 337

called-size : (most : ℕ) (o : Option Enlistment) (ms : List Manager) (event : Enlistment → Event) → ((e : Enlistment) → o ≡ Some e → event_size (event e) ≤ most) → sizes (event_of_caller o ms event) ≤ most
called-size most None ms event small = omega arith
called-size most (Some e) ms event small = let one = if-sized (is_durable_at ms e.manager) (event e) in let few = small e refl in omega (arith, one, few)

held-size : (id : Id) (o : Option Enlistment) → IsBrief o → sizes (held_event id o) ≤ 154
held-size id None brief = omega arith
held-size id (Some e) brief = let one = one-sized (Event.Held id e.id e.manager e.information) in let short = brief e refl in omega (arith, one, short)

module _ (changes settings : ℕ) where
  fact-size : (fact : Fact) (b : Basis) → sum_by change_size b.changes ≤ changes → sum_by setting_size b.settings ≤ settings → IsBrief b.caller → IsBrief b.superior
      → sizes (events_of fact b) ≤ changes * of_files fact + settings * of_keys fact + fact_cost fact
  fact-size Fact.ReadyFiles b files keys caller superior = let one = if-sized (has_changes b.changes) (Event.Ready b.id (Part.Changes b.changes)) in omega (arith, one, files)
  fact-size Fact.ReadyKeys b files keys caller superior = let one = if-sized (has_settings b.settings) (Event.Ready b.id (Part.Settings b.settings)) in omega (arith, one, keys)
  fact-size Fact.Ready b files keys caller superior =
      let most = called-size 155 b.caller b.managers (λ e. Event.Ready b.id (enlistment_part e)) (λ e is. let short = caller e is in omega (arith, short)) in omega (arith, most)
  fact-size Fact.Held b files keys caller superior = let most = held-size b.id b.superior superior in omega (arith, most)
  fact-size Fact.Decide b files keys caller superior = let one = if-sized b.is_recorded (Event.Decide b.id) in omega (arith, one)
  fact-size Fact.Undo b files keys caller superior = let one = if-sized b.is_recorded (Event.Undo b.id) in omega (arith, one)
  fact-size Fact.DoneFiles b files keys caller superior = let one = if-sized (has_changes b.changes) (Event.Done b.id DonePart.Files) in omega (arith, one)
  fact-size Fact.DoneKeys b files keys caller superior = let one = if-sized (has_settings b.settings) (Event.Done b.id DonePart.Keys) in omega (arith, one)
  fact-size Fact.Done b files keys caller superior = let most = called-size 18 b.caller b.managers (λ e. Event.Done b.id (DonePart.Enlistment e.id)) (λ e is. omega arith) in omega (arith, most)
  fact-size Fact.SingleFiles b files keys caller superior = let one = one-sized (Event.Single b.id (Part.Changes b.changes)) in omega (arith, one, files)
  fact-size Fact.SingleKeys b files keys caller superior = let one = one-sized (Event.Single b.id (Part.Settings b.settings)) in omega (arith, one, keys)

  pub ahead-size : (steps : List Step) (b : Basis) → sum_by change_size b.changes ≤ changes → sum_by setting_size b.settings ≤ settings → IsBrief b.caller → IsBrief b.superior
      → sizes (events_ahead steps b) ≤ changes * files_recorded steps + settings * keys_recorded steps + spent steps
  ahead-size [] b files keys caller superior = omega arith
  ahead-size (Step.Record fact ∷ steps) b files keys caller superior =
      let next = record b { is_recorded = is_recorded_by fact b } in
      let both = sum_by-append event_size (events_of fact b) (events_ahead steps next) in
      let one = fact-size fact b files keys caller superior in
      let more = ahead-size steps next files keys caller superior in
      omega (arith, both, one, more)
  ahead-size (_ ∷ steps) b files keys caller superior = ahead-size steps b files keys caller superior

  -- ---- rows

  pub led-size : (input : PhaseInput) (c : Course) → c.events ≡ [] → sum_by change_size c.changes ≤ changes → sum_by setting_size c.settings ≤ settings → IsBrief (basis c).caller → IsBrief (basis c).superior
      → sizes (led input c).events ≤ changes + settings + 337
  led-size input c none files keys caller superior =
      let steps = row (seen c) input in
      let parts = and_parts (nat_le (files_recorded steps) 1 && nat_le (keys_recorded steps) 1) (nat_le (spent steps) 337) (each-row-passes is_lean refl (seen c) input) in
      let once = and_parts (nat_le (files_recorded steps) 1) (nat_le (keys_recorded steps) 1) parts.0 in
      let files_once = mul-le-mul_left changes (leb-true (files_recorded steps) 1 once.0) in
      let keys_once = mul-le-mul_left settings (leb-true (keys_recorded steps) 1 once.1) in
      let few = leb-true (spent steps) 337 parts.1 in
      let all = ahead-size steps (basis c) files keys caller superior in
      let same = ap sizes (led-events input c none) in
      omega (arith, files_once, keys_once, few, all, same)
