-- The event by which a participant of a transaction is done.
use Rattle.std.proofs.Common.{◌≡◌, ◌+◌, ◌<◌, ◌≤◌, ◌^◌, ◌&&◌, ◌||◌, not, Bool, true, false, List, [], map, filter, nat_le, Some, refl, sym, ◌∙◌, subst, arith, inl, inr, ◌⊎◌}
use Rattle.std.proofs.lemmas.Bool.{cases_Bool, and_parts, and_from, or_cases, or_from, or_left, or_right, le-leb, leb-true, not-true, not_from_false, true≢false}
use Rattle.std.specs.List.{list_all, list_any}
use Rattle.ktm_base.specs.declared.id.Id.{Id}
use Rattle.ktm_world.specs.declared.recorded.RecordedPart.{RecordedPart}
use Rattle.ktm_world.specs.declared.recorded.Stage.{Stage}
use Rattle.ktm_world.specs.declared.recorded.Superior.{Superior}
use Rattle.ktm_world.specs.declared.event.DonePart.{DonePart}
use Rattle.ktm_world.specs.declared.event.Event.TheVariants.{Done}
use Rattle.ktm_world.specs.declared.event.Part.{Part}
use Rattle.ktm_world.specs.declared.event.Part.TheVariants.{Enlistment, Changes, Settings}
use Rattle.ktm_world.specs.Durable.{Durable, Recorded, is_ready, is_decided, is_sole, is_part_of, is_of_enlistment, changes_in, settings_in, enlistments_in, enlistments_of, superior_ids, has_undone, parts_done, while_not_done, finish_recorded, is_within_limits}
use Rattle.txf_laws.specs.Elements.{IsIn, each_pair}
use Rattle.txf_laws.specs.GoodState.{enlisted_in, superiors_in, is_done_well, IsGoodState}
use Rattle.txf_laws.proofs.offered.Diamonds.{IsIn-right}
use Rattle.txf_laws.proofs.offered.Lists.{IsIn-left, IsIn-cases, IsIn-unmap}
use Rattle.txf_laws.proofs.offered.Elements.{IsIn-filter, list_all-at, list_all-from, each_pair-append, each_pair-left, each_pair-right, each_pair-across}
use Rattle.txf_laws.proofs.offered.Parts.{gathered, count_among, gathered-map, count_among-map, count_among-filter, gathered-filter_none, IsIn-gathered_filter, each_pair-gathered_filter}
use Rattle.txf_laws.proofs.offered.GoodTransactions.{differ, IsEnlisted, Core, Fitting, TableOf, good-from, table-of, rest-of}
use Rattle.txf_laws.proofs.ChangedStates.{limits-counted, with_all, Rest-transactions, Fitting-carried, Beside-carried}
use Rattle.txf_laws.proofs.offered.WaitingChanges.{no_changes-left, no_settings-left}
use Rattle.txf_laws.proofs.StateEvents.{Keeps}
use Rattle.txf_laws.proofs.DecidedEvents.{named, Table-while}

-- ---- a participant is done

-- what stays so of the parts of a decided transaction
record Lessened (t : Recorded) (parts : List RecordedPart) : Type 0 where
  enlisted : (e : Superior) → IsIn e (gathered enlisted_in parts) → IsIn e (gathered enlisted_in t.parts)
  enlistments : (a : Id) → IsIn a (gathered enlistments_in parts) → IsIn a (gathered enlistments_in t.parts)
  differ : each_pair differ (gathered enlistments_in parts) ≡ true
  counts : (done : DonePart) → count_among (is_part_of done) parts ≤ count_among (is_part_of done) t.parts
  done : list_all (is_done_well t) parts ≡ true
  changes : gathered changes_in parts ≡ []
  settings : gathered settings_in parts ≡ []

module _ (s : Durable) (good : IsGoodState s) (t : Recorded) (there : IsIn t s.transactions) (is : is_decided t.stage ≡ true) (parts : List RecordedPart) (less : Lessened t parts) where
  abbrev finished : Recorded
  finished = record t { parts = parts }

  abbrev s_done : Durable
  s_done = with_all s s.tree s.keys s.next_node (while_not_done s.transactions finished) (s.events + 1)

  table : TableOf s s.transactions
  table = table-of s good

  core : Core s t
  core = (table.fit t there).core

  in_old : (a : Id) → IsIn a (enlistments_of finished) → IsIn a (enlistments_of t)
  in_old a has = elim (IsIn-cases a (superior_ids t.superior) (gathered enlistments_in parts) has) [
    | inl above ↦ IsIn-left a (superior_ids t.superior) (gathered enlistments_in t.parts) above
    | inr below ↦ IsIn-right a (superior_ids t.superior) (gathered enlistments_in t.parts) (less.enlistments a below)
  ]

  Fitting-finished : list_any (λ (p : RecordedPart). not p.is_done) parts ≡ true → Fitting s_done finished
  Fitting-finished stays = record {
    core = record {
      drawn = core.drawn;
      enlistments = λ e has. let old = enlisted-one e (IsIn-cases e (superiors_in t.superior) (gathered enlisted_in parts) has) in record { drawn = old.drawn; manager = old.manager; information = old.information };
      differ = each_pair-append differ (superior_ids t.superior) (gathered enlistments_in parts) (each_pair-left differ (superior_ids t.superior) (gathered enlistments_in t.parts) core.differ) less.differ
          (λ a b has has'. each_pair-across differ (superior_ids t.superior) (gathered enlistments_in t.parts) core.differ a b has (less.enlistments b has'));
      parts = let few = and_parts (nat_le (count_among (is_part_of DonePart.Files) t.parts) 1) (nat_le (count_among (is_part_of DonePart.Keys) t.parts) 1) core.parts in
          and_from _ _ (fewer DonePart.Files few.0) (fewer DonePart.Keys few.1);
      held = core.held;
      decided = or_right _ _ stays;
      done = less.done;
      changes = rw (is, less.changes) refl;
      apply = rw less.changes refl;
      made = rw less.changes refl;
      new = rw less.changes refl;
      puts = rw less.changes refl;
      settings = rw (is, less.settings) refl;
    };
    ready = or_left _ _ (not_from_false _ (not_ready t.stage is));
  }
    where
      enlisted-one : (e : Superior) → IsIn e (superiors_in t.superior) ⊎ IsIn e (gathered enlisted_in parts) → IsEnlisted s e
      enlisted-one e (inl above) = core.enlistments e (IsIn-left e (superiors_in t.superior) (gathered enlisted_in t.parts) above)
      enlisted-one e (inr below) = core.enlistments e (IsIn-right e (superiors_in t.superior) (gathered enlisted_in t.parts) (less.enlisted e below))

      fewer : (done : DonePart) → nat_le (count_among (is_part_of done) t.parts) 1 ≡ true → nat_le (count_among (is_part_of done) parts) 1 ≡ true
      fewer done few = le-leb (count_among (is_part_of done) parts) 1 (omega (arith, less.counts done, leb-true _ _ few))

      not_ready : (stage : Stage) → is_decided stage ≡ true → is_ready stage ≡ false
      not_ready Stage.Ready is = absurd (true≢false (sym is))
      not_ready Stage.Held is = refl
      not_ready Stage.Decided is = refl

  finished-good : is_within_limits s_done ≡ true → s.events + 1 < 2 ^ 63 → IsGoodState s_done
  finished-good limits few = good-from s_done (Table-while s s_done finished table
      (λ u there' other fits. Fitting-carried s s_done u refl (λ m is. is) (omega arith) fits.core.apply fits.core.new fits)
      (λ u v there' there'' other other' sides. Beside-carried s s_done u v refl sides)
      Fitting-finished
      (λ u there' other. record {
        enlistments = λ a b has has'. (table.beside t u there there' (λ e. other (sym e))).enlistments a b (in_old a has) has';
        files = λ waits waits'. absurd (true≢false (sym is ∙ waits));
        keys = λ waits waits'. absurd (true≢false (sym is ∙ waits));
      }))
      (Rest-transactions s (while_not_done s.transactions finished) (s.events + 1) (rest-of s good) limits few)

-- a part that is marked is no enlistment's
sole-from : (done : DonePart) (part : Part) → is_of_enlistment done ≡ false → is_part_of done part ≡ true → is_sole part ≡ true
sole-from (DonePart.Enlistment id) part other is = absurd (true≢false other)
sole-from DonePart.Files (Enlistment enlistment manager information) other is = absurd (true≢false (sym is))
sole-from DonePart.Files (Changes cs) other is = refl
sole-from DonePart.Files (Settings ss) other is = refl
sole-from DonePart.Keys (Enlistment enlistment manager information) other is = absurd (true≢false (sym is))
sole-from DonePart.Keys (Changes cs) other is = refl
sole-from DonePart.Keys (Settings ss) other is = refl

-- a part that is marked where it is of the participant
abbrev pub marked : DonePart → RecordedPart → RecordedPart
marked done p = record p { is_done = p.is_done || is_part_of done p.part }

lessened : (s : Durable) (t : Recorded) (done : DonePart) → Core s t → is_decided t.stage ≡ true → Lessened t (parts_done done t.parts)
lessened s t done core is = elim (cases_Bool (is_of_enlistment done)) [
  | inl out ↦ rw out record {
    enlisted = λ e has. IsIn-gathered_filter enlisted_in keep t.parts e has;
    enlistments = λ a has. IsIn-gathered_filter enlistments_in keep t.parts a has;
    differ = each_pair-gathered_filter differ enlistments_in keep t.parts old;
    counts = λ d. count_among-filter (is_part_of d) keep t.parts;
    done = list_all-from (is_done_well t) (filter keep t.parts) (λ p there. list_all-at (is_done_well t) t.parts core.done p (IsIn-filter keep t.parts p there).0);
    changes = gathered-filter_none changes_in keep t.parts (no_changes-left t core.changes is);
    settings = gathered-filter_none settings_in keep t.parts (no_settings-left t core.settings is);
  }
  | inr stays ↦ rw stays record {
    enlisted = λ e has. subst (λ es. IsIn e es) (gathered-map enlisted_in (marked done) (λ p. refl) t.parts) has;
    enlistments = λ a has. subst (λ es. IsIn a es) (gathered-map enlistments_in (marked done) (λ p. refl) t.parts) has;
    differ = subst (λ es. each_pair differ es ≡ true) (sym (gathered-map enlistments_in (marked done) (λ p. refl) t.parts)) old;
    counts = λ d. let same = count_among-map (is_part_of d) (marked done) (λ p. refl) t.parts in omega arith;
    done = list_all-from (is_done_well t) (map (marked done) t.parts) (λ q there. let from = IsIn-unmap (marked done) q t.parts there in
        subst (λ (p : RecordedPart). is_done_well t p ≡ true) from.1 (well from.0 stays (list_all-at (is_done_well t) t.parts core.done from.0 from.2)));
    changes = gathered-map changes_in (marked done) (λ p. refl) t.parts ∙ no_changes-left t core.changes is;
    settings = gathered-map settings_in (marked done) (λ p. refl) t.parts ∙ no_settings-left t core.settings is;
  }
]
  where
    keep : RecordedPart → Bool
    keep p = not (is_part_of done p.part)

    old : each_pair differ (gathered enlistments_in t.parts) ≡ true
    old = each_pair-right differ (superior_ids t.superior) (gathered enlistments_in t.parts) core.differ

    its_own : (p : RecordedPart) → p.is_done ≡ true → is_done_well t p ≡ true → (is_decided t.stage && is_sole p.part) ≡ true
    its_own p ready was = elim (or_cases (not p.is_done) (is_decided t.stage && is_sole p.part) was) [ inl open' ↦ absurd (true≢false (sym ready ∙ not-true _ open')) | inr both ↦ both ]

    well : (p : RecordedPart) → is_of_enlistment done ≡ false → is_done_well t p ≡ true → is_done_well t (marked done p) ≡ true
    well p stays was = elim (cases_Bool (is_part_of done p.part)) [
      | inl its ↦ or_right _ _ (and_from _ _ is (sole-from done p.part stays its))
      | inr other ↦ elim (cases_Bool p.is_done) [
        | inl ready ↦ or_right _ _ (its_own p ready was)
        | inr open' ↦ or_left _ _ (not_from_false (p.is_done || is_part_of done p.part) (or_from _ _ open' other))
      ]
    ]

pub done-keeps : (s : Durable) (transaction : Id) (done : DonePart) → Keeps s (Done transaction done)
done-keeps s transaction done good spelled applies limits few =
    let name = named s transaction (has_undone done) good applies in
    let is = (and_parts (is_decided (name.t).stage) (list_any (λ p. is_part_of done p.part && not p.is_done) (name.t).parts) name.passes).0 in
    subst (λ o. IsGoodState (record (finish_recorded s done o) { events = s.events + 1 })) (sym name.found)
    (finished-good s good name.t name.there is (parts_done done (name.t).parts) (lessened s name.t done ((table-of s good).fit name.t name.there).core is)
    (limits-counted (finish_recorded s done (Some name.t)) (s.events + 1) (subst (λ o. is_within_limits (finish_recorded s done o) ≡ true) name.found limits)) few)
