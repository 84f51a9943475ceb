-- What steps record makes of the transactions what is read of it says.
use Rattle.std.proofs.Common.{◌≡◌, ◌||◌, Bool, true, false, List, [], ◌∷◌, ◌++◌, Option, Some, None, fold, refl, ◌∙◌, ap, inl, inr}
use Rattle.std.specs.Prelude.{if◌then◌else◌, is_some}
use Rattle.std.proofs.lemmas.Bool.{cases_Bool}
use Rattle.ktm_base.specs.declared.id.Id.{Id}
use Rattle.ktm_world.specs.declared.event.DonePart.{DonePart}
use Rattle.ktm_world.specs.declared.event.Event.{Event}
use Rattle.ktm_world.specs.declared.event.Part.{Part}
use Rattle.ktm_world.specs.declared.step.Fact.{Fact}
use Rattle.ktm_world.specs.declared.step.Step.{Step}
use Rattle.ktm_world.specs.declared.step.Step.TheVariants.{Tell, Ask, Change, Enter, Decide, End, EndWhereFinished}
use Rattle.ktm_world.specs.Changes.{has_changes}
use Rattle.ktm_world.specs.Enlistments.{Enlistment, Manager, is_durable_at}
use Rattle.ktm_world.specs.Phases.{enlistment_part, event_if, has_settings}
use Rattle.ktm_world.specs.Steps.{Basis, event_of_caller, events_ahead, events_of, held_event, is_of_durable, is_recorded_by}
use Rattle.ktm_trace.specs.Placed.{at_id}
use Rattle.ktm_trace.specs.Recordings.{durable_caller, is_noted_by, noted, recording_of, steps_noted, with_it}
use Rattle.ktm_trace.specs.Traces.{Traced, id_of, once_done, once_ready, traces_after}

-- ---- facts

noted-if : (b : Bool) (event : Event) (ts : List Traced) → fold traces_after ts (event_if b event) ≡ (if b then traces_after ts event else ts)
noted-if true event ts = refl
noted-if false event ts = refl

noted-caller : (caller : Option Enlistment) (ms : List Manager) (event : Enlistment → Event) (ts : List Traced) (f : Id → List Traced) → ((e : Enlistment) → traces_after ts (event e) ≡ f e.id)
    → fold traces_after ts (event_of_caller caller ms event) ≡ with_it (durable_caller ms caller) ts f
noted-caller None ms event ts f same = refl
noted-caller (Some e) ms event ts f same = elim (cases_Bool (is_durable_at ms e.manager)) [
  | inl durable ↦ rw durable (same e)
  | inr volatile ↦ rw volatile refl
]

noted-held : (b : Basis) (superior : Option Enlistment) (ts : List Traced) → fold traces_after ts (held_event b.id superior) ≡ noted (recording_of (record b { superior = superior })) Fact.Held ts
noted-held b None ts = refl
noted-held b (Some e) ts = refl

fact-noted : (fact : Fact) (b : Basis) (ts : List Traced) → fold traces_after ts (events_of fact b) ≡ noted (recording_of b) fact ts
fact-noted Fact.ReadyFiles b ts = noted-if (has_changes b.changes) (Event.Ready b.id (Part.Changes b.changes)) ts
fact-noted Fact.ReadyKeys b ts = noted-if (has_settings b.settings) (Event.Ready b.id (Part.Settings b.settings)) ts
fact-noted Fact.Ready b ts = noted-caller b.caller b.managers (λ e. Event.Ready b.id (enlistment_part e)) ts (λ id. once_ready ts b.id (DonePart.Enlistment id)) (λ e. refl)
fact-noted Fact.Held b ts = noted-held b b.superior ts
fact-noted Fact.Decide b ts = noted-if b.is_recorded (Event.Decide b.id) ts
fact-noted Fact.Undo b ts = noted-if b.is_recorded (Event.Undo b.id) ts
fact-noted Fact.DoneFiles b ts = noted-if (has_changes b.changes) (Event.Done b.id DonePart.Files) ts
fact-noted Fact.DoneKeys b ts = noted-if (has_settings b.settings) (Event.Done b.id DonePart.Keys) ts
fact-noted Fact.Done b ts = noted-caller b.caller b.managers (λ e. Event.Done b.id (DonePart.Enlistment e.id)) ts (λ id. once_done ts (DonePart.Enlistment id) (at_id id_of ts b.id)) (λ e. refl)
fact-noted Fact.SingleFiles b ts = refl
fact-noted Fact.SingleKeys b ts = refl

-- ---- whether the log has a Ready or a Held

durable-noted : (caller : Option Enlistment) (ms : List Manager) → is_of_durable ms caller ≡ is_some (durable_caller ms caller)
durable-noted None ms = refl
durable-noted (Some e) ms = elim (cases_Bool (is_durable_at ms e.manager)) [
  | inl durable ↦ rw durable refl
  | inr volatile ↦ rw volatile refl
]

superior-noted : (superior : Option Enlistment) (b : Basis) → is_recorded_by Fact.Held (record b { superior = superior }) ≡ is_noted_by Fact.Held (recording_of (record b { superior = superior }))
superior-noted None b = refl
superior-noted (Some e) b = refl

recorded-noted : (fact : Fact) (b : Basis) → is_recorded_by fact b ≡ is_noted_by fact (recording_of b)
recorded-noted Fact.ReadyFiles b = refl
recorded-noted Fact.ReadyKeys b = refl
recorded-noted Fact.Ready b = ap (λ d. d || b.is_recorded) (durable-noted b.caller b.managers)
recorded-noted Fact.Held b = superior-noted b.superior b
recorded-noted Fact.Decide b = refl
recorded-noted Fact.Undo b = refl
recorded-noted Fact.DoneFiles b = refl
recorded-noted Fact.DoneKeys b = refl
recorded-noted Fact.Done b = refl
recorded-noted Fact.SingleFiles b = refl
recorded-noted Fact.SingleKeys b = refl

-- ---- steps

fold-both : (ts : List Traced) (es fs : List Event) → fold traces_after ts (es ++ fs) ≡ fold traces_after (fold traces_after ts es) fs
fold-both ts [] fs = refl
fold-both ts (e ∷ es) fs = fold-both (traces_after ts e) es fs

pub ahead-noted : (steps : List Step) (b : Basis) (ts : List Traced) → fold traces_after ts (events_ahead steps b) ≡ steps_noted (recording_of b) steps ts
ahead-noted [] b ts = refl
ahead-noted (Step.Record fact ∷ steps) b ts =
    let then_b : Basis = record b { is_recorded = is_recorded_by fact b } in
    fold-both ts (events_of fact b) (events_ahead steps then_b)
    ∙ ap (λ us. fold traces_after us (events_ahead steps then_b)) (fact-noted fact b ts)
    ∙ ahead-noted steps then_b (noted (recording_of b) fact ts)
    ∙ ap (λ r. steps_noted (record (recording_of b) { is_recorded = r }) steps (noted (recording_of b) fact ts)) (recorded-noted fact b)
ahead-noted (Step.Commit ∷ steps) b ts = ahead-noted steps b ts
ahead-noted (Tell who kind ∷ steps) b ts = ahead-noted steps b ts
ahead-noted (Ask who kind owed ∷ steps) b ts = ahead-noted steps b ts
ahead-noted (Change answer ∷ steps) b ts = ahead-noted steps b ts
ahead-noted (Enter phase ∷ steps) b ts = ahead-noted steps b ts
ahead-noted (Decide outcome ∷ steps) b ts = ahead-noted steps b ts
ahead-noted (End outcome ∷ steps) b ts = ahead-noted steps b ts
ahead-noted (EndWhereFinished outcome ∷ steps) b ts = ahead-noted steps b ts
