-- The events by which the files and the keys of a transaction get ready, beside its course.
use Rattle.std.proofs.Common.{◌≡◌, ◌||◌, Bool, true, false, List, [], ◌∷◌, ◌++◌, Option, Some, None, is_some, refl, sym, ◌∙◌, ap, subst, arith, inl, inr}
use Rattle.std.proofs.lemmas.Bool.{true≢false}
use Rattle.std.proofs.lemmas.Grind.{flat_map-append}
use Rattle.std.proofs.lemmas.List.{append-nil}
use Rattle.std.specs.List.{flat_map}
use Rattle.ktm_base.specs.declared.id.Id.{Id}
use Rattle.ktm_world.specs.declared.change.Change.{Change}
use Rattle.ktm_world.specs.declared.event.Event.{Event}
use Rattle.ktm_world.specs.declared.event.Part.{Part}
use Rattle.ktm_world.specs.declared.recorded.RecordedPart.{RecordedPart}
use Rattle.ktm_world.specs.declared.recorded.Stage.{Stage}
use Rattle.ktm_world.specs.Changes.{has_changes}
use Rattle.ktm_world.specs.Committed.{Committed}
use Rattle.ktm_world.specs.Durable.{Durable, Recorded, after_events, changes_in, changes_of, settings_in, settings_of}
use Rattle.ktm_world.specs.Keys.{OwnSettings}
use Rattle.ktm_world.specs.Phases.{Course, event_if, has_settings, one_if}
use Rattle.ktm_world.specs.Present.{Present}
use Rattle.ktm_world.specs.World.{by_rising_id, enlistment_back}
use Rattle.txf_laws.proofs.offered.Lists.{IsIn-cases}
use Rattle.ktm_records.proofs.LoggedOrder.{or_new}
use Rattle.ktm_records.proofs.LoggedUndecided.{AreDone, Stores}
use Rattle.ktm_records.proofs.LoggedTransaction.{AreDrawn, Tracks, tracks-ready, with_ready}

-- ---- the files and the keys get ready

-- with one part more that is ready, where this is so
abbrev pub ready_if : Bool → Part → Id → Option Recorded → Option Recorded
ready_if true part id o = Some (with_ready (or_new o id) part)
ready_if false part id o = o

pub some-ready : (b : Bool) (part : Part) (id : Id) (o : Option Recorded) → is_some (ready_if b part id o) ≡ (is_some o || b)
some-ready true part id None = refl
some-ready true part id (Some r) = refl
some-ready false part id None = refl
some-ready false part id (Some r) = refl

pub none-changed : (cs : List Change) → has_changes cs ≡ false → cs ≡ []
none-changed [] none = refl
none-changed (c ∷ cs) none = absurd (true≢false none)

pub none-set : (ss : OwnSettings) → has_settings ss ≡ false → ss ≡ []
none-set [] none = refl
none-set (s ∷ ss) none = absurd (true≢false none)

-- none of these, as many as are counted
pub none-counted : (b : Bool) → one_if b ≡ 0 → b ≡ false
none-counted true counted = absurd (omega (arith, counted))
none-counted false counted = refl

-- what the log has of a transaction, while its files and its keys get ready
pub record Gets (x : Present) (before behind : List Recorded) (c : Course) (cs : List Change) (ss : OwnSettings) (o : Option Recorded) (s : Durable) (k : Committed) : Type 0 where
  pub tracks : Tracks x c.transaction.id before behind o s k
  pub stores : Stores c cs ss (or_new o c.transaction.id)
  pub stage : (or_new o c.transaction.id).stage ≡ Stage.Ready
  pub alone : (or_new o c.transaction.id).superior ≡ None

module _ (x : Present) (before behind : List Recorded) (c : Course) where
  abbrev id : Id
  id = c.transaction.id

  -- a part that has no enlistment
  back-pushed : (r : Recorded) (part : Part) → enlistment_back r.id (record { is_done = false; part = part }) ≡ [] → by_rising_id (flat_map (enlistment_back r.id) (with_ready r part).parts) ≡ by_rising_id (flat_map (enlistment_back r.id) r.parts)
  back-pushed r part none = ap by_rising_id (flat_map-append (enlistment_back r.id) r.parts (record { is_done = false; part = part } ∷ []) ∙ ap (λ es. flat_map (enlistment_back r.id) r.parts ++ (es ++ [])) none ∙ append-nil (flat_map (enlistment_back r.id) r.parts))

  pub gets-changes : (cs : List Change) (o : Option Recorded) (s : Durable) (k : Committed) → AreDrawn x cs → Gets x before behind c [] [] o s k
      → Gets x before behind c cs [] (ready_if (has_changes cs) (Part.Changes cs) id o) (after_events s (event_if (has_changes cs) (Event.Ready id (Part.Changes cs)))) k
  gets-changes [] o s k drawn gets = gets
  gets-changes (change ∷ cs) o s k drawn gets = record {
    tracks = tracks-ready x id before behind o s k (Part.Changes (change ∷ cs)) drawn gets.tracks;
    stores = record {
      id = (gets.stores).id;
      enlistments = back-pushed r (Part.Changes (change ∷ cs)) refl ∙ (gets.stores).enlistments;
      changes = flat_map-append (λ (p : RecordedPart). changes_in p.part) r.parts _ ∙ (λ i. (gets.stores).changes i ++ append-nil (change ∷ cs) i);
      settings = flat_map-append (λ (p : RecordedPart). settings_in p.part) r.parts _ ∙ append-nil (settings_of r) ∙ (gets.stores).settings;
      parts = λ p in_parts. elim (IsIn-cases p r.parts _ in_parts) [
        | inl old ↦ let is = (gets.stores).parts p old in (is.0, (λ files. refl, (is.1).1))
        | inr (inl same) ↦ subst (λ (q : RecordedPart). (q.is_done ≡ false) × AreDone true false q.part) same (refl, (λ files. refl, λ keys. keys))
        | inr (inr none) ↦ absurd none
      ];
    };
    stage = gets.stage;
    alone = gets.alone;
  }
    where
      r : Recorded
      r = or_new o id

  pub gets-settings : (cs : List Change) (ss : OwnSettings) (o : Option Recorded) (s : Durable) (k : Committed) → Gets x before behind c cs [] o s k
      → Gets x before behind c cs ss (ready_if (has_settings ss) (Part.Settings ss) id o) (after_events s (event_if (has_settings ss) (Event.Ready id (Part.Settings ss)))) k
  gets-settings cs [] o s k gets = gets
  gets-settings cs (setting ∷ ss) o s k gets = record {
    tracks = tracks-ready x id before behind o s k (Part.Settings (setting ∷ ss)) (λ n none. absurd none) gets.tracks;
    stores = record {
      id = (gets.stores).id;
      enlistments = back-pushed r (Part.Settings (setting ∷ ss)) refl ∙ (gets.stores).enlistments;
      changes = flat_map-append (λ (p : RecordedPart). changes_in p.part) r.parts _ ∙ append-nil (changes_of r) ∙ (gets.stores).changes;
      settings = flat_map-append (λ (p : RecordedPart). settings_in p.part) r.parts _ ∙ (λ i. (gets.stores).settings i ++ append-nil (setting ∷ ss) i);
      parts = λ p in_parts. elim (IsIn-cases p r.parts _ in_parts) [
        | inl old ↦ let is = (gets.stores).parts p old in (is.0, ((is.1).0, λ keys. refl))
        | inr (inl same) ↦ subst (λ (q : RecordedPart). (q.is_done ≡ false) × AreDone (has_changes cs) true q.part) same (refl, (λ files. absurd (true≢false (sym files)), λ keys. refl))
        | inr (inr none) ↦ absurd none
      ];
    };
    stage = gets.stage;
    alone = gets.alone;
  }
    where
      r : Recorded
      r = or_new o id
