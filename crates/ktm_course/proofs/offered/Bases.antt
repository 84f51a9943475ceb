-- From whatever the same parts record, it is the same.
use Rattle.std.proofs.Common.{◌≡◌, ◌||◌, Bool, List, [], ◌∷◌, ◌++◌, Option, Some, None, is_some, refl, sym, ◌∙◌, ap}
use Rattle.ktm_base.specs.declared.id.Id.{Id}
use Rattle.ktm_world.specs.declared.event.DonePart.{DonePart}
use Rattle.ktm_world.specs.declared.event.Event.{Event}
use Rattle.ktm_world.specs.declared.event.Part.{Part}
use Rattle.ktm_world.specs.declared.step.Fact.{Fact}
use Rattle.ktm_world.specs.declared.step.Step.{Step}
use Rattle.ktm_world.specs.declared.step.Step.TheVariants.{Record, Tell, Ask, Enter, Decide, End, EndWhereFinished}
use Rattle.ktm_world.specs.Changes.{has_changes}
use Rattle.ktm_world.specs.Enlistments.{Enlistment, Manager}
use Rattle.ktm_world.specs.Phases.{enlistment_part, event_if, has_settings}
use Rattle.ktm_world.specs.Steps.{Basis, event_of_caller, events_ahead, events_of, held_event, is_of_durable, is_recorded_by}
use Rattle.ktm_course.proofs.Bases.{recorded_basis}
use Rattle.ktm_event.specs.Work.{FinalFile}
use Rattle.ktm_course.specs.Recorded.{IsBasis, IsCaller, IsSuperior}
use Rattle.ktm_course.specs.declared.parts.Enlisted.{Enlisted}
use Rattle.ktm_course.specs.declared.parts.Parts.{Parts}

-- an event of a caller that reads of it what is recorded
abbrev Reads : (Enlistment → Event) → Type 0
Reads event = (e f : Enlistment) → e.id ≡ f.id → e.manager ≡ f.manager → e.information ≡ f.information → event e ≡ event f

same_caller : (event : Enlistment → Event) → Reads event → (ms ns : List Manager) (e f : Option Enlistment) (o : Option Enlisted) → IsCaller ms e o → IsCaller ns f o → event_of_caller e ms event ≡ event_of_caller f ns event
same_caller event reads ms ns None None None a b = refl
same_caller event reads ms ns (Some e) (Some f) (Some o) a b =
    ap (λ (d : Bool). event_if d (event e)) (a.1 ∙ sym b.1)
    ∙ ap (event_if _) (reads e f (a.0.id ∙ sym b.0.id) (a.0.manager ∙ sym b.0.manager) (a.0.information ∙ sym b.0.information))
same_caller event reads ms ns None None (Some o) a b = absurd a
same_caller event reads ms ns None (Some f) None a b = absurd b
same_caller event reads ms ns None (Some f) (Some o) a b = absurd a
same_caller event reads ms ns (Some e) None None a b = absurd a
same_caller event reads ms ns (Some e) None (Some o) a b = absurd b
same_caller event reads ms ns (Some e) (Some f) None a b = absurd a

same_durable : (ms ns : List Manager) (e f : Option Enlistment) (o : Option Enlisted) → IsCaller ms e o → IsCaller ns f o → is_of_durable ms e ≡ is_of_durable ns f
same_durable ms ns None None None a b = refl
same_durable ms ns (Some e) (Some f) (Some o) a b = a.1 ∙ sym b.1
same_durable ms ns None None (Some o) a b = absurd a
same_durable ms ns None (Some f) None a b = absurd b
same_durable ms ns None (Some f) (Some o) a b = absurd a
same_durable ms ns (Some e) None None a b = absurd a
same_durable ms ns (Some e) None (Some o) a b = absurd b
same_durable ms ns (Some e) (Some f) None a b = absurd a

same_superior : (id : Id) (e f : Option Enlistment) (o : Option Enlisted) → IsSuperior e o → IsSuperior f o → (held_event id e ≡ held_event id f) × (is_some e ≡ is_some f)
same_superior id None None None a b = (refl, refl)
same_superior id (Some e) (Some f) (Some o) a b = (rw (a.id, a.manager, a.information, b.id, b.manager, b.information) refl, refl)
same_superior id None None (Some o) a b = absurd a
same_superior id None (Some f) None a b = absurd b
same_superior id None (Some f) (Some o) a b = absurd a
same_superior id (Some e) None None a b = absurd a
same_superior id (Some e) None (Some o) a b = absurd b
same_superior id (Some e) (Some f) None a b = absurd a

module _ {F : Type 0} {files_of : F → List FinalFile} (id : Id) (parts : Parts F) where
  same_fact : (fact : Fact) (is_recorded : Bool) (a b : Basis) → IsBasis files_of a id is_recorded parts → IsBasis files_of b id is_recorded parts → (events_of fact a ≡ events_of fact b) × (is_recorded_by fact a ≡ is_recorded_by fact b)
  same_fact fact is_recorded a b is is' = go fact
    where
      of : a.id ≡ b.id
      of = is.id ∙ sym is'.id

      recorded : a.is_recorded ≡ b.is_recorded
      recorded = is.recorded ∙ sym is'.recorded

      changes : a.changes ≡ b.changes
      changes = is.changes ∙ sym is'.changes

      settings : a.settings ≡ b.settings
      settings = is.settings ∙ sym is'.settings

      caller : (event : Id → Enlistment → Event) → Reads (event b.id) → event_of_caller a.caller a.managers (event a.id) ≡ event_of_caller b.caller b.managers (event b.id)
      caller event reads = ap (λ (i : Id). event_of_caller a.caller a.managers (event i)) of ∙ same_caller (event b.id) reads a.managers b.managers a.caller b.caller parts.caller is.caller is'.caller

      durable : (is_of_durable a.managers a.caller || a.is_recorded) ≡ (is_of_durable b.managers b.caller || b.is_recorded)
      durable = λ i. same_durable a.managers b.managers a.caller b.caller parts.caller is.caller is'.caller i || recorded i

      superior : (held_event b.id a.superior ≡ held_event b.id b.superior) × (is_some a.superior ≡ is_some b.superior)
      superior = same_superior b.id a.superior b.superior parts.superior is.superior is'.superior

      go : (fact : Fact) → (events_of fact a ≡ events_of fact b) × (is_recorded_by fact a ≡ is_recorded_by fact b)
      go Fact.ReadyFiles = (λ i. event_if (has_changes (changes i)) (Event.Ready (of i) (Part.Changes (changes i))), λ i. recorded i || has_changes (changes i))
      go Fact.ReadyKeys = (λ i. event_if (has_settings (settings i)) (Event.Ready (of i) (Part.Settings (settings i))), λ i. recorded i || has_settings (settings i))
      go Fact.Ready = (caller (λ i e. Event.Ready i (enlistment_part e)) (λ e f same manager information. λ i. Event.Ready b.id (Part.Enlistment (same i) (manager i) (information i))), durable)
      go Fact.Held = (ap (λ (i : Id). held_event i a.superior) of ∙ superior.0, λ i. superior.1 i || recorded i)
      go Fact.Decide = (λ i. event_if (recorded i) (Event.Decide (of i)), recorded)
      go Fact.Undo = (λ i. event_if (recorded i) (Event.Undo (of i)), recorded)
      go Fact.DoneFiles = (λ i. event_if (has_changes (changes i)) (Event.Done (of i) DonePart.Files), recorded)
      go Fact.DoneKeys = (λ i. event_if (has_settings (settings i)) (Event.Done (of i) DonePart.Keys), recorded)
      go Fact.Done = (caller (λ i e. Event.Done i (DonePart.Enlistment e.id)) (λ e f same manager information. λ i. Event.Done b.id (DonePart.Enlistment (same i))), recorded)
      go Fact.SingleFiles = (λ i. Event.Single (of i) (Part.Changes (changes i)) ∷ [], recorded)
      go Fact.SingleKeys = (λ i. Event.Single (of i) (Part.Settings (settings i)) ∷ [], recorded)

  -- the events of steps are the same from each basis of the same parts
  pub same_events : (steps : List Step) (is_recorded : Bool) (a b : Basis) → IsBasis files_of a id is_recorded parts → IsBasis files_of b id is_recorded parts → events_ahead steps a ≡ events_ahead steps b
  same_events [] is_recorded a b is is' = refl
  same_events (Record fact ∷ steps) is_recorded a b is is' =
      let same = same_fact fact is_recorded a b is is' in
      λ i. same.0 i ++ same_events steps (is_recorded_by fact a) (record a { is_recorded = is_recorded_by fact a }) (record b { is_recorded = is_recorded_by fact b }) (recorded_basis a id is_recorded (is_recorded_by fact a) parts is) (again b same.1 is') i
    where
      again : (c : Basis) → is_recorded_by fact a ≡ is_recorded_by fact c → IsBasis files_of c id is_recorded parts → IsBasis files_of (record c { is_recorded = is_recorded_by fact c }) id (is_recorded_by fact a) parts
      again c same is = record { id = is.id; recorded = sym same; changes = is.changes; settings = is.settings; caller = is.caller; superior = is.superior }
  same_events (Step.Commit ∷ steps) is_recorded a b is is' = same_events steps is_recorded a b is is'
  same_events (Tell who kind ∷ steps) is_recorded a b is is' = same_events steps is_recorded a b is is'
  same_events (Ask who kind owed ∷ steps) is_recorded a b is is' = same_events steps is_recorded a b is is'
  same_events (Step.Change answer ∷ steps) is_recorded a b is is' = same_events steps is_recorded a b is is'
  same_events (Enter phase ∷ steps) is_recorded a b is is' = same_events steps is_recorded a b is is'
  same_events (Decide outcome ∷ steps) is_recorded a b is is' = same_events steps is_recorded a b is is'
  same_events (End outcome ∷ steps) is_recorded a b is is' = same_events steps is_recorded a b is is'
  same_events (EndWhereFinished outcome ∷ steps) is_recorded a b is is' = same_events steps is_recorded a b is is'
