-- The event by which a transaction is decided.
use Rattle.std.proofs.Common.{◌≡◌, ◌+◌, ◌<◌, ◌^◌, ◌&&◌, ◌||◌, not, Bool, true, false, [], ◌++◌, map, Some, refl, sym, ◌∙◌, ap, subst, inl, inr}
use Rattle.std.proofs.lemmas.Bool.{cases_Bool, and_parts, or_left, not-true, not_from_false, true≢false}
use Rattle.std.specs.List.{list_any}
use Rattle.ktm_base.specs.declared.id.Id.{Id}
use Rattle.ktm_world.specs.declared.recorded.RecordedPart.{RecordedPart}
use Rattle.ktm_world.specs.declared.recorded.Stage.{Stage}
use Rattle.ktm_world.specs.declared.event.DonePart.{DonePart}
use Rattle.ktm_world.specs.declared.event.Event.TheVariants.{Decide}
use Rattle.ktm_world.specs.declared.event.Part.{Part}
use Rattle.ktm_world.specs.declared.event.Part.TheVariants.{Enlistment, Changes, Settings}
use Rattle.ktm_world.specs.Changes.{changed_all}
use Rattle.ktm_world.specs.Durable.{Durable, Recorded, is_ready, is_held, is_decided, is_part_of, changes_in, settings_in, enlistments_in, changes_of, settings_of, enlistments_of, superior_ids, has_part, emptied, emptied_part, stage_passes, recorded_at, while_not_done, decide_recorded, next_after_all, is_within_limits}
use Rattle.ktm_world.specs.Keys.{stored_all}
use Rattle.ktm_world.specs.Transactions.{same_id}
use Rattle.txf_laws.specs.Elements.{IsIn, each_pair}
use Rattle.txf_laws.specs.Footprint.{ListsLaw}
use Rattle.txf_laws.specs.Formed.{FormedLaw}
use Rattle.txf_laws.specs.GoodState.{enlisted_in, superiors_in, enlisted, is_done_well, IsGoodState}
use Rattle.txf_laws.proofs.offered.Lists.{IsIn-unmap}
use Rattle.txf_laws.proofs.offered.Elements.{list_all-at, list_all-from, list_any-at}
use Rattle.txf_laws.proofs.offered.Parts.{gathered-map, gathered-map_none, count_among-map}
use Rattle.txf_laws.proofs.offered.Tables.{same_id-equal, other_id, recorded_at-there, Table-filter, Table-with}
use Rattle.txf_laws.proofs.offered.GoodTransactions.{differ, Core, Fitting, Beside, Beside-sym, TableOf, good-from, table-of, rest-of}
use Rattle.txf_laws.proofs.offered.NodeNumbers.{next-rises}
use Rattle.txf_laws.proofs.ChangedStates.{limits-counted, with_all, Fitting-carried}
use Rattle.txf_laws.proofs.offered.WaitingChanges.{settings-of-good, SparesWaiting, waiting-apply, waiting-new, waiting-holds}
use Rattle.txf_laws.proofs.StateEvents.{Keeps, Beside-committed, Rest-committed}
use Rattle.txf_laws.proofs.HeldEvents.{undone}

-- ---- the transaction that an event names

pub record Named (s : Durable) (id : Id) (test : Recorded → Bool) : Type 0 where
  pub t : Recorded
  pub there : IsIn t s.transactions
  pub is : t.id ≡ id
  pub passes : test t ≡ true
  pub found : recorded_at s.transactions id ≡ Some t

pub named : (s : Durable) (id : Id) (test : Recorded → Bool) → IsGoodState s → stage_passes s id test ≡ true → Named s id test
named s id test good passes =
    let some = list_any-at (λ t. same_id t.id id && test t) s.transactions passes in
    let both = and_parts (same_id (some.0).id id) (test some.0) some.2 in
    let is = same_id-equal (some.0).id id both.0 in
    record { t = some.0; there = some.1; is = is; passes = both.1; found = ap (recorded_at s.transactions) (sym is) ∙ recorded_at-there s.transactions good.transactions_rise some.0 some.1 }

-- a transaction that stays while a part of it is not done
pub Table-while : (s s' : Durable) (t : Recorded) → TableOf s s.transactions
    → ((u : Recorded) → IsIn u s.transactions → (u.id ≡ t.id → ⊥) → Fitting s u → Fitting s' u)
    → ((u v : Recorded) → IsIn u s.transactions → IsIn v s.transactions → (u.id ≡ t.id → ⊥) → (v.id ≡ t.id → ⊥) → Beside s u v → Beside s' u v)
    → (list_any (λ (p : RecordedPart). not p.is_done) t.parts ≡ true → Fitting s' t) → ((u : Recorded) → IsIn u s.transactions → (u.id ≡ t.id → ⊥) → Beside s' t u)
    → TableOf s' (while_not_done s.transactions t)
Table-while s s' t table fits beside fit sides = elim (cases_Bool (list_any (λ (p : RecordedPart). not p.is_done) t.parts)) [
  | inl stays ↦ rw stays (Table-with (Fitting s) (Beside s) (Fitting s') (Beside s') s.transactions t table fits beside (fit stays)
      (λ u there other. let side = sides u there other in (side, Beside-sym s' t u side)))
  | inr over ↦ rw over (Table-filter (Fitting s) (Beside s) (Fitting s') (Beside s') (λ u. not (same_id u.id t.id)) s.transactions table
      (λ u there keep old. fits u there (other_id u.id t.id (not-true _ keep)) old)
      (λ u v there there' keep keep' differs old. beside u v there there' (other_id u.id t.id (not-true _ keep)) (other_id v.id t.id (not-true _ keep')) old))
]

-- ---- a transaction is decided

-- the transaction, decided
abbrev decided : Recorded → Recorded
decided t = record t { stage = Stage.Decided; parts = map emptied_part t.parts }

emptied-enlisted : (p : RecordedPart) → enlisted_in (emptied_part p).part ≡ enlisted_in p.part
emptied-enlisted p = go p.part
  where
    go : (part : Part) → enlisted_in (emptied part) ≡ enlisted_in part
    go (Enlistment enlistment manager information) = refl
    go (Changes cs) = refl
    go (Settings ss) = refl

emptied-enlistments : (p : RecordedPart) → enlistments_in (emptied_part p).part ≡ enlistments_in p.part
emptied-enlistments p = go p.part
  where
    go : (part : Part) → enlistments_in (emptied part) ≡ enlistments_in part
    go (Enlistment enlistment manager information) = refl
    go (Changes cs) = refl
    go (Settings ss) = refl

emptied-changes : (p : RecordedPart) → changes_in (emptied_part p).part ≡ []
emptied-changes p = go p.part
  where
    go : (part : Part) → changes_in (emptied part) ≡ []
    go (Enlistment enlistment manager information) = refl
    go (Changes cs) = refl
    go (Settings ss) = refl

emptied-settings : (p : RecordedPart) → settings_in (emptied_part p).part ≡ []
emptied-settings p = go p.part
  where
    go : (part : Part) → settings_in (emptied part) ≡ []
    go (Enlistment enlistment manager information) = refl
    go (Changes cs) = refl
    go (Settings ss) = refl

emptied-kind : (done : DonePart) (p : RecordedPart) → is_part_of done (emptied_part p).part ≡ is_part_of done p.part
emptied-kind done p = go done p.part
  where
    go : (done : DonePart) (part : Part) → is_part_of done (emptied part) ≡ is_part_of done part
    go (DonePart.Enlistment id) (Enlistment enlistment manager information) = refl
    go (DonePart.Enlistment id) (Changes cs) = refl
    go (DonePart.Enlistment id) (Settings ss) = refl
    go DonePart.Files (Enlistment enlistment manager information) = refl
    go DonePart.Files (Changes cs) = refl
    go DonePart.Files (Settings ss) = refl
    go DonePart.Keys (Enlistment enlistment manager information) = refl
    go DonePart.Keys (Changes cs) = refl
    go DonePart.Keys (Settings ss) = refl

module _ (lists : ListsLaw) (formed : FormedLaw) (s : Durable) (good : IsGoodState s) (t : Recorded) (there : IsIn t s.transactions) (waiting : is_decided t.stage ≡ false) where
  abbrev s_decided : Durable
  s_decided = with_all s (changed_all s.tree (changes_of t)) (stored_all s.keys (settings_of t)) (next_after_all s.next_node (changes_of t)) (while_not_done s.transactions (decided t)) (s.events + 1)

  table : TableOf s s.transactions
  table = table-of s good

  core : Core s t
  core = (table.fit t there).core

  enlisted-decided : enlisted (decided t) ≡ enlisted t
  enlisted-decided = ap (λ es. superiors_in t.superior ++ es) (gathered-map enlisted_in emptied_part emptied-enlisted t.parts)

  enlistments-decided : enlistments_of (decided t) ≡ enlistments_of t
  enlistments-decided = ap (λ es. superior_ids t.superior ++ es) (gathered-map enlistments_in emptied_part emptied-enlistments t.parts)

  changes-decided : changes_of (decided t) ≡ []
  changes-decided = gathered-map_none changes_in emptied_part emptied-changes t.parts

  settings-decided : settings_of (decided t) ≡ []
  settings-decided = gathered-map_none settings_in emptied_part emptied-settings t.parts

  Fitting-decided : list_any (λ (p : RecordedPart). not p.is_done) (decided t).parts ≡ true → Fitting s_decided (decided t)
  Fitting-decided stays = record {
    core = record {
      drawn = core.drawn;
      enlistments = λ e has. let is = core.enlistments e (subst (λ es. IsIn e es) enlisted-decided has) in record { drawn = is.drawn; manager = is.manager; information = is.information };
      differ = subst (λ es. each_pair differ es ≡ true) (sym enlistments-decided) core.differ;
      parts = rw (count_among-map (is_part_of DonePart.Files) emptied_part (emptied-kind DonePart.Files) t.parts, count_among-map (is_part_of DonePart.Keys) emptied_part (emptied-kind DonePart.Keys) t.parts) core.parts;
      held = refl;
      decided = stays;
      done = list_all-from (is_done_well (decided t)) (map emptied_part t.parts) (λ q in_parts. let from = IsIn-unmap emptied_part q t.parts in_parts in
          or_left _ _ (not_from_false _ (ap (λ (p : RecordedPart). p.is_done) (sym from.1) ∙ undone t from.0 waiting (list_all-at (is_done_well t) t.parts core.done from.0 from.2))));
      changes = rw changes-decided refl;
      apply = rw changes-decided refl;
      made = rw changes-decided refl;
      new = rw changes-decided refl;
      puts = rw changes-decided refl;
      settings = rw settings-decided refl;
    };
    ready = refl;
  }

  decided-good : is_within_limits s_decided ≡ true → s.events + 1 < 2 ^ 63 → IsGoodState s_decided
  decided-good limits few = good-from s_decided (Table-while s s_decided (decided t) table
      (λ u there' other fits. Fitting-carried s s_decided u refl (λ m is. is) (next-rises (changes_of t) s.next_node)
      (waiting-apply lists s good.files (changes_of t) core.apply u fits.core.changes fits.core.apply (spares u there' other)) (waiting-new lists s good.files (changes_of t) core.apply u fits.core.changes fits.core.new (spares u there' other)) fits)
      (λ u v there' there'' other other' sides. Beside-committed s s_decided u v
      (waiting-holds lists s good.files (changes_of t) core.apply u (table.fit u there').core.apply (spares u there' other))
      (waiting-holds lists s good.files (changes_of t) core.apply v (table.fit v there'').core.apply (spares v there'' other')) sides)
      Fitting-decided
      (λ u there' other. record {
        enlistments = λ a b has has'. (beside u there' other).enlistments a b (subst (λ es. IsIn a es) enlistments-decided has) has';
        files = λ waits waits'. absurd (true≢false waits);
        keys = λ waits waits'. absurd (true≢false waits);
      }))
      (Rest-committed lists formed s (changes_of t) (settings_of t) (while_not_done s.transactions (decided t)) (rest-of s good) core.apply (settings-of-good t core.settings) limits few)
    where
      beside : (u : Recorded) → IsIn u s.transactions → (u.id ≡ t.id → ⊥) → Beside s t u
      beside u there' other = table.beside t u there there' (λ e. other (sym e))

      spares : (u : Recorded) → IsIn u s.transactions → (u.id ≡ t.id → ⊥) → SparesWaiting s (changes_of t) u
      spares u there' other waits = (beside u there' other).files waiting waits

pub decide-keeps : ListsLaw → FormedLaw → (s : Durable) (transaction : Id) → Keeps s (Decide transaction)
decide-keeps lists formed s transaction good spelled applies limits few =
    let name = named s transaction (λ t. is_held t.stage || (is_ready t.stage && has_part t)) good applies in
    subst (λ o. IsGoodState (record (decide_recorded s o) { events = s.events + 1 })) (sym name.found)
    (decided-good lists formed s good name.t name.there (waits name.t name.passes)
    (limits-counted (decide_recorded s (Some name.t)) (s.events + 1) (subst (λ o. is_within_limits (decide_recorded s o) ≡ true) name.found limits)) few)
  where
    waits : (t : Recorded) → (is_held t.stage || (is_ready t.stage && has_part t)) ≡ true → is_decided t.stage ≡ false
    waits t passes = go t.stage passes
      where
        go : (stage : Stage) → (is_held stage || (is_ready stage && has_part t)) ≡ true → is_decided stage ≡ false
        go Stage.Ready is = refl
        go Stage.Held is = refl
        go Stage.Decided is = absurd (true≢false (sym is))
