-- The limits hold after each event that a transaction's course records.
use Rattle.std.specs.Prelude.{if◌then◌else◌}
use Rattle.std.proofs.Common.{◌≡◌, ℕ, ◌+◌, ◌≤◌, ◌||◌, not, Bool, true, false, List, [], ◌∷◌, ◌++◌, filter, map, length, count_by, Option, Some, None, refl, sym, ◌∙◌, ap, subst, arith, inl, inr, ◌⊎◌, length-append}
use Rattle.std.proofs.lemmas.Bool.{cases_Bool, not-true, true≢false, false_from_ne_true}
use Rattle.std.proofs.lemmas.Option.{none-some, same_Some}
use Rattle.std.specs.List.{list_any}
use Rattle.ktm_base.specs.declared.limits.TheConstants.{MOST_LIVE}
use Rattle.ktm_base.specs.declared.id.Id.{Id}
use Rattle.ktm_world.specs.declared.change.Change.{Change}
use Rattle.ktm_world.specs.declared.event.DonePart.{DonePart}
use Rattle.ktm_world.specs.declared.event.Event.TheVariants.{Decide, Done, Held, Ready, Single}
use Rattle.ktm_world.specs.declared.event.Part.{Part}
use Rattle.ktm_world.specs.declared.event.Part.TheVariants.{Enlistment as EnlistmentPart, Changes, Settings}
use Rattle.ktm_world.specs.declared.object.Transaction.{Transaction}
use Rattle.ktm_world.specs.declared.recorded.RecordedPart.{RecordedPart}
use Rattle.ktm_world.specs.declared.recorded.Stage.{Stage}
use Rattle.ktm_world.specs.Changes.{changed_all}
use Rattle.ktm_world.specs.Durable.{Durable, Recorded, after_event, changes_in, changes_of, settings_in, settings_of, emptied_part, enlistments_in, enlistments_of, fact_of, finish_recorded, decide_recorded, is_before, is_decided, is_of_enlistment, is_part_of, is_within_limits, parts_done, recorded_at, recorded_or_new, superior_ids, while_not_done, with_recorded}
use Rattle.ktm_world.specs.Files.{OwnChanges, own_changes}
use Rattle.ktm_world.specs.Keys.{Own, OwnSettings, own_settings, stored_all, without_own}
use Rattle.ktm_world.specs.Lawful.{Agrees, undecided}
use Rattle.ktm_world.specs.Present.{Present}
use Rattle.ktm_world.specs.Transactions.{is_live, same_id}
use Rattle.txf_laws.specs.Elements.{IsIn}
use Rattle.txf_laws.specs.Footprint.{ListsLaw}
use Rattle.txf_laws.specs.SoundFiles.{IsSoundFiles}
use Rattle.ktm_limits.proofs.RecordedWithin.{Budget, Counts, bounded}
use Rattle.ktm_limits.proofs.BudgetSteps.{budget-files, budget-keys, own_without, tree_then}
use Rattle.ktm_records.proofs.offered.DurableLimits.{limits-from}
use Rattle.txf_laws.proofs.offered.Elements.{IsIn-filter, each_pair-filter}
use Rattle.txf_laws.proofs.offered.Limits.{Less-while, limits-less}
use Rattle.ktm_records.proofs.offered.NoMore.{Fits}
use Rattle.txf_laws.proofs.offered.Parts.{gathered, gathered-map, gathered-push}
use Rattle.ktm_limits.proofs.RecordedLimits.{Seats, budget-now, is_live_part, is_live_superior, managers-now, recalled-counts, recalls, seated}
use Rattle.ktm_courses.proofs.offered.OutcomesMade.{own_changes-without, own_settings-without}
use Rattle.txf_laws.proofs.offered.Tables.{Rises, IsIn-with_recorded, Rises-with_recorded, is_earlier, recorded_at-found, recorded_at-there, same_id-equal, same_id-from}
use Rattle.ktm_steps.proofs.offered.Ways.{if_cases}

-- ---- the transaction with an Id

-- of one that is there
pub recorded_or_new-there : (ts : List Recorded) → Rises ts → (r : Recorded) → IsIn r ts → recorded_or_new ts r.id ≡ r
recorded_or_new-there ts rises r there = go ts (recorded_at-there ts rises r there)
  where
    go : (ts : List Recorded) → recorded_at ts r.id ≡ Some r → recorded_or_new ts r.id ≡ r
    go [] found = absurd (none-some r found)
    go (a ∷ as') found = elim (cases_Bool (same_id a.id r.id)) [
      | inl same ↦ rw same (same_Some a r (rw same at found))
      | inr other ↦ rw other (go as' (rw other at found))
    ]

recorded_or_new-id : (ts : List Recorded) (id : Id) → (recorded_or_new ts id).id ≡ id
recorded_or_new-id [] id = refl
recorded_or_new-id (a ∷ ts) id = elim (cases_Bool (same_id a.id id)) [ inl same ↦ rw same (same_id-equal a.id id same) | inr other ↦ rw other (recorded_or_new-id ts id) ]

recorded_or_new-with : (ts : List Recorded) (u : Recorded) (id : Id) → u.id ≡ id → recorded_or_new (with_recorded ts u) id ≡ u
recorded_or_new-with [] u id is = rw (same_id-from u.id id is) refl
recorded_or_new-with (a ∷ ts) u id is = elim (cases_Bool (same_id a.id u.id)) [
  | inl same ↦ rw (same, same_id-from u.id id is) refl
  | inr other ↦ elim (cases_Bool (is_before u.id a.id)) [
    | inl before ↦ rw (other, before, same_id-from u.id id is) refl
    | inr behind ↦ rw (other, behind, subst (λ i. same_id a.id i ≡ false) is other) (recorded_or_new-with ts u id is)
  ]
]

-- how many enlistments its parts have
abbrev pub parts_counted : Recorded → ℕ
parts_counted r = length (gathered enlistments_in r.parts)

-- ---- a transaction on its way

-- the state while nothing is decided: what was recorded of other transactions is as it was, and of this one these changes and settings, and no more enlistments than these
pub record Along (x : Present) (t : Transaction) (s : Durable) (cs : List Change) (ss : OwnSettings) (parts above : ℕ) : Type 0 where
  pub rises : Rises s.transactions
  pub others : (r : Recorded) → IsIn r s.transactions → same_id r.id t.id ≡ false → IsIn r x.recorded.transactions
  pub waits : is_decided (recorded_or_new s.transactions t.id).stage ≡ false
  pub owns : changes_of (recorded_or_new s.transactions t.id) ≡ cs
  pub sets : settings_of (recorded_or_new s.transactions t.id) ≡ ss
  pub enlisted : parts_counted (recorded_or_new s.transactions t.id) ≤ parts
  pub superior : length (superior_ids (recorded_or_new s.transactions t.id).superior) ≤ above
  pub tree : s.tree ≡ x.files.tree
  pub keys : s.keys ≡ x.keys.store
  pub managers : s.managers ≡ x.recorded.managers
  pub room : s.units ≡ x.recorded.units

-- the state once it is decided
pub record Past (t : Transaction) (s : Durable) : Type 0 where
  pub rises : Rises s.transactions
  pub decided : (r : Recorded) → IsIn r s.transactions → same_id r.id t.id ≡ true → is_decided r.stage ≡ true
  pub limits : is_within_limits s ≡ true

-- a part is ready
pub ready-along : (x : Present) (t : Transaction) (s : Durable) (cs : List Change) (ss : OwnSettings) (n m : ℕ) (part : Part) → Along x t s cs ss n m
    → Along x t (after_event s (Ready t.id part)) (cs ++ changes_in part) (ss ++ settings_in part) (n + length (enlistments_in part)) m
ready-along x t s cs ss n m part along =
    let was = recorded_or_new s.transactions t.id in
    let p : RecordedPart = record { is_done = false; part = part } in
    let now : Recorded = record was { parts = was.parts ++ p ∷ [] } in
    let is : recorded_or_new (with_recorded s.transactions now) t.id ≡ now = recorded_or_new-with s.transactions now t.id (recorded_or_new-id s.transactions t.id) in
    record {
      rises = Rises-with_recorded s.transactions now along.rises;
      others = λ r there other. elim (IsIn-with_recorded s.transactions now r along.rises there) [
        | inl e ↦ absurd (true≢false (sym (same_id-from r.id t.id (ap (λ (q : Recorded). q.id) e ∙ recorded_or_new-id s.transactions t.id)) ∙ other))
        | inr old ↦ along.others r old.0 other
      ];
      waits = ap (λ (r : Recorded). is_decided r.stage) is ∙ along.waits;
      owns = ap changes_of is ∙ gathered-push changes_in was.parts p ∙ ap (λ ds. ds ++ changes_in part) along.owns;
      sets = ap settings_of is ∙ gathered-push settings_in was.parts p ∙ ap (λ ds. ds ++ settings_in part) along.sets;
      enlisted = (let a = ap parts_counted is in let b = ap length (gathered-push enlistments_in was.parts p) in let c = length-append (gathered enlistments_in was.parts) (enlistments_in part) in let d = along.enlisted in omega arith);
      superior = subst (λ (r : Recorded). length (superior_ids r.superior) ≤ m) (sym is) along.superior;
      tree = along.tree;
      keys = along.keys;
      managers = along.managers;
      room = along.room;
    }

-- it waits for its superior
pub held-along : (x : Present) (t : Transaction) (s : Durable) (cs : List Change) (ss : OwnSettings) (n m : ℕ) (enlistment manager : Id) (information : List ℕ) → Along x t s cs ss n m
    → Along x t (after_event s (Held t.id enlistment manager information)) cs ss n 1
held-along x t s cs ss n m enlistment manager information along =
    let was = recorded_or_new s.transactions t.id in
    let now : Recorded = record was { stage = Stage.Held; superior = Some (record { enlistment = enlistment; manager = manager; information = information }) } in
    let is : recorded_or_new (with_recorded s.transactions now) t.id ≡ now = recorded_or_new-with s.transactions now t.id (recorded_or_new-id s.transactions t.id) in
    record {
      rises = Rises-with_recorded s.transactions now along.rises;
      others = λ r there other. elim (IsIn-with_recorded s.transactions now r along.rises there) [
        | inl e ↦ absurd (true≢false (sym (same_id-from r.id t.id (ap (λ (q : Recorded). q.id) e ∙ recorded_or_new-id s.transactions t.id)) ∙ other))
        | inr old ↦ along.others r old.0 other
      ];
      waits = ap (λ (r : Recorded). is_decided r.stage) is;
      owns = ap changes_of is ∙ along.owns;
      sets = ap settings_of is ∙ along.sets;
      enlisted = (let a = ap parts_counted is in let b = along.enlisted in omega arith);
      superior = subst (λ (r : Recorded). length (superior_ids r.superior) ≤ 1) (sym is) (omega arith);
      tree = along.tree;
      keys = along.keys;
      managers = along.managers;
      room = along.room;
    }

-- ---- the limits

module _ (lists : ListsLaw) (x : Present) (agrees : Agrees x) (sound : IsSoundFiles x) (fits : Fits x) (t : Transaction) (there : IsIn t x.transactions.items) (live : is_live t ≡ true) where
  abbrev own : List OwnChanges
  own = x.files.table.own

  abbrev set : List Own
  set = x.keys.own

  -- so many enlistments are live
  pub record Few (n m : ℕ) : Type 0 where
    pub parts : n ≤ count_by (is_live_part x t.id) x.transactions.enlistments
    pub above : m ≤ count_by (is_live_superior x t.id) x.transactions.enlistments

  few-counted : (r : Recorded) (n m : ℕ) → Few n m → r.id ≡ t.id → parts_counted r ≤ n → length (superior_ids r.superior) ≤ m → Seats x r
  few-counted r n m few is parts above = record {
    parts = (let a = few.parts in let e = ap (λ id. count_by (is_live_part x id) x.transactions.enlistments) is in omega arith);
    superior = (let a = few.above in let e = ap (λ id. count_by (is_live_superior x id) x.transactions.enlistments) is in omega arith);
  }

  module _ (s : Durable) (cs : List Change) (ss : OwnSettings) (n m : ℕ) (along : Along x t s cs ss n m) (few : Few n m) where
    abbrev mine : Recorded
    mine = recorded_or_new s.transactions t.id

    mine-id : mine.id ≡ t.id
    mine-id = recorded_or_new-id s.transactions t.id

    is-mine : (r : Recorded) → IsIn r s.transactions → same_id r.id t.id ≡ true → r ≡ mine
    is-mine r has same = sym (recorded_or_new-there s.transactions along.rises r has) ∙ ap (recorded_or_new s.transactions) (same_id-equal r.id t.id same)

    live-mine : (id : Id) → id ≡ t.id → (u : Transaction) × IsIn u x.transactions.items × (u.id ≡ id) × (is_live u ≡ true)
    live-mine id is = (t, there, sym is, live)

    counts-mine : (own' : List OwnChanges) (set' : List Own) → (cs ≡ []) ⊎ (cs ≡ own_changes own' t.id) → (ss ≡ []) ⊎ (ss ≡ own_settings set' t.id) → Counts x own' set' mine
    counts-mine own' set' changes settings = record {
      changes = λ waits. elim changes [ inl none ↦ inl (along.owns ∙ none) | inr is ↦ inr (along.owns ∙ is ∙ ap (own_changes own') (sym mine-id)) ];
      settings = λ waits. elim settings [ inl none ↦ inl (along.sets ∙ none) | inr is ↦ inr (along.sets ∙ is ∙ ap (own_settings set') (sym mine-id)) ];
      live = live-mine mine.id mine-id;
      enlistments = seated x mine (few-counted mine n m few mine-id along.enlisted along.superior);
    }

    -- those of others, whether this one has committed its changes and its settings or not
    abbrev own_then : Bool → List OwnChanges
    own_then b = if b then own_without own t.id else own

    abbrev set_then : Bool → List Own
    set_then b = if b then without_own set t.id else set

    others-own : (b : Bool) (id : Id) → same_id id t.id ≡ false → own_changes (own_then b) id ≡ own_changes own id
    others-own true id other = own_changes-without own t.id id other
    others-own false id other = refl

    others-set : (b : Bool) (id : Id) → same_id id t.id ≡ false → own_settings (set_then b) id ≡ own_settings set id
    others-set true id other = own_settings-without set t.id id other
    others-set false id other = refl

    counts-other : (b d : Bool) (r : Recorded) → IsIn r s.transactions → same_id r.id t.id ≡ false → Counts x (own_then b) (set_then d) r
    counts-other b d r has other =
        let was = recalled-counts x r (recalls x agrees r (along.others r has other)) in
        record {
          changes = λ waits. elim (was.changes waits) [ inl none ↦ inl none | inr is ↦ inr (is ∙ sym (others-own b r.id other)) ];
          settings = λ waits. elim (was.settings waits) [ inl none ↦ inl none | inr is ↦ inr (is ∙ sym (others-set d r.id other)) ];
          live = was.live;
          enlistments = was.enlistments;
        }

    few-managers : length s.managers ≤ MOST_LIVE
    few-managers = let a = ap length along.managers in let b = managers-now x agrees fits in omega arith

    -- the limits of a state with what was committed
    bounded-then : (b d : Bool) (s' : Durable) → Rises s'.transactions → ((r : Recorded) → IsIn r s'.transactions → Counts x (own_then b) (set_then d) r) → s'.units ≡ s.units → s'.managers ≡ s.managers
        → Budget x.recorded.units s'.tree (own_then b) s'.keys (set_then d) → is_within_limits s' ≡ true
    bounded-then b d s' rises counts room managers budget =
        limits-from s' (bounded x s' (own_then b) (set_then d) rises counts (subst (λ n. Budget n s'.tree (own_then b) s'.keys (set_then d)) (sym (room ∙ along.room)) budget) fits.live fits.enlisted
        (subst (λ ms. length ms ≤ MOST_LIVE) (sym managers) few-managers))

    budget : Budget x.recorded.units s.tree own s.keys set
    budget = subst (λ tree. Budget x.recorded.units tree own s.keys set) (sym along.tree) (subst (λ keys. Budget x.recorded.units x.files.tree own keys set) (sym along.keys) (budget-now x sound fits))

    -- while nothing is decided
    pub along-limits : (cs ≡ []) ⊎ (cs ≡ own_changes own t.id) → (ss ≡ []) ⊎ (ss ≡ own_settings set t.id) → is_within_limits s ≡ true
    along-limits changes settings = bounded-then false false s along.rises (λ r has. elim (cases_Bool (same_id r.id t.id)) [
      | inl same ↦ subst (Counts x own set) (sym (is-mine r has same)) (counts-mine own set changes settings)
      | inr other ↦ counts-other false false r has other
    ]) refl refl budget

    module _ (undecided' : IsIn t (undecided x)) where
      budget-then : (b d : Bool) → Budget x.recorded.units (if b then tree_then lists x sound t undecided' else x.files.tree) (own_then b) (if d then stored_all x.keys.store (own_settings set t.id) else x.keys.store) (set_then d)
      budget-then b d = with_keys d (with_files b)
        where
          with_files : (b : Bool) → Budget x.recorded.units (if b then tree_then lists x sound t undecided' else x.files.tree) (own_then b) x.keys.store set
          with_files true = budget-files lists x sound t undecided' x.recorded.units x.keys.store set (budget-now x sound fits)
          with_files false = budget-now x sound fits

          with_keys : (d : Bool) → Budget x.recorded.units (if b then tree_then lists x sound t undecided' else x.files.tree) (own_then b) x.keys.store set
              → Budget x.recorded.units (if b then tree_then lists x sound t undecided' else x.files.tree) (own_then b) (if d then stored_all x.keys.store (own_settings set t.id) else x.keys.store) (set_then d)
          with_keys true budget = budget-keys x.recorded.units (if b then tree_then lists x sound t undecided' else x.files.tree) (own_then b) x.keys.store set t.id budget
          with_keys false budget = budget

      -- ---- it commits alone

      pub single-changes : cs ≡ [] → ss ≡ [] → is_within_limits (fact_of s (Single t.id (Changes (own_changes own t.id)))) ≡ true
      single-changes none none' = bounded-then true false (fact_of s (Single t.id (Changes (own_changes own t.id)))) along.rises (λ r has. elim (cases_Bool (same_id r.id t.id)) [
        | inl same ↦ subst (Counts x (own_without own t.id) set) (sym (is-mine r has same)) (counts-mine (own_without own t.id) set (inl none) (inl none'))
        | inr other ↦ counts-other true false r has other
      ]) refl refl (subst (λ tree. Budget x.recorded.units (changed_all tree (own_changes own t.id)) (own_without own t.id) s.keys set) (sym along.tree)
          (subst (λ keys. Budget x.recorded.units (changed_all x.files.tree (own_changes own t.id)) (own_without own t.id) keys set) (sym along.keys) (budget-then true false)))

      pub single-settings : cs ≡ [] → ss ≡ [] → is_within_limits (fact_of s (Single t.id (Settings (own_settings set t.id)))) ≡ true
      single-settings none none' = bounded-then false true (fact_of s (Single t.id (Settings (own_settings set t.id)))) along.rises (λ r has. elim (cases_Bool (same_id r.id t.id)) [
        | inl same ↦ subst (Counts x own (without_own set t.id)) (sym (is-mine r has same)) (counts-mine own (without_own set t.id) (inl none) (inl none'))
        | inr other ↦ counts-other false true r has other
      ]) refl refl (subst (λ tree. Budget x.recorded.units tree own (stored_all s.keys (own_settings set t.id)) (without_own set t.id)) (sym along.tree)
          (subst (λ keys. Budget x.recorded.units x.files.tree own (stored_all keys (own_settings set t.id)) (without_own set t.id)) (sym along.keys) (budget-then false true)))

      -- ---- it is decided

      IsIn-while : (u v : Recorded) → IsIn v (while_not_done s.transactions u) → (v ≡ u) ⊎ (IsIn v s.transactions × (same_id v.id u.id ≡ false))
      IsIn-while u v = if_cases (λ ts. IsIn v ts → (v ≡ u) ⊎ (IsIn v s.transactions × (same_id v.id u.id ≡ false))) (list_any (λ (p : RecordedPart). not p.is_done) u.parts) _ _
          (λ stays has. elim (IsIn-with_recorded s.transactions u v along.rises has) [ inl e ↦ inl e | inr old ↦ inr (old.0, false_from_ne_true _ (λ same. old.1 (same_id-equal v.id u.id same))) ])
          (λ over has. let kept = IsIn-filter (λ (r : Recorded). not (same_id r.id u.id)) s.transactions v has in inr (kept.0, not-true _ kept.1))

      Rises-while : (u : Recorded) → Rises (while_not_done s.transactions u)
      Rises-while u = if_cases Rises (list_any (λ (p : RecordedPart). not p.is_done) u.parts) _ _ (λ stays. Rises-with_recorded s.transactions u along.rises) (λ over. each_pair-filter is_earlier (λ (r : Recorded). not (same_id r.id u.id)) s.transactions along.rises)

      emptied-same : (p : RecordedPart) → enlistments_in (emptied_part p).part ≡ enlistments_in p.part
      emptied-same p = go p.part
        where
          go : (part : Part) → enlistments_in (emptied_part (record { is_done = p.is_done; part = part })).part ≡ enlistments_in part
          go (EnlistmentPart enlistment manager information) = refl
          go (Changes changes) = refl
          go (Settings settings) = refl

      pub decide-past : cs ≡ own_changes own t.id → ss ≡ own_settings set t.id → (is_within_limits (fact_of s (Decide t.id)) ≡ true) × Past t (after_event s (Decide t.id))
      unfolding is_within_limits
      decide-past changes settings = go (recorded_at s.transactions t.id) refl
        where
          go : (o : Option Recorded) → recorded_at s.transactions t.id ≡ o → (is_within_limits (decide_recorded s o) ≡ true) × Past t (record (decide_recorded s o) { events = s.events + 1 })
          go None none =
              let limits = along-limits (inr changes) (inr settings) in
              (limits, record { rises = along.rises; decided = λ r has same. absurd (none-some r (sym none ∙ ap (recorded_at s.transactions) (sym (same_id-equal r.id t.id same)) ∙ recorded_at-there s.transactions along.rises r has)); limits = limits })
          go (Some r) found =
              let at = recorded_at-found s.transactions t.id r found in
              let is : r ≡ mine = is-mine r at.0 (same_id-from r.id t.id at.1) in
              let d : Recorded = record r { stage = Stage.Decided; parts = map emptied_part r.parts } in
              let s' = decide_recorded s (Some r) in
              let tree : s'.tree ≡ tree_then lists x sound t undecided' = (λ i. changed_all (along.tree i) ((ap changes_of is ∙ along.owns ∙ changes) i)) in
              let keys : s'.keys ≡ stored_all x.keys.store (own_settings set t.id) = (λ i. stored_all (along.keys i) ((ap settings_of is ∙ along.sets ∙ settings) i)) in
              let counted : parts_counted d ≡ parts_counted r = ap length (gathered-map enlistments_in emptied_part emptied-same r.parts) in
              let seats : Seats x d = few-counted d n m few at.1 (let a = along.enlisted in let b = ap parts_counted is in omega arith) (subst (λ (q : Recorded). length (superior_ids q.superior) ≤ m) (sym is) along.superior) in
              let limits : is_within_limits s' ≡ true = bounded-then true true s' (Rises-while d) (λ u has. elim (IsIn-while d u has) [
                | inl e ↦ subst (Counts x (own_without own t.id) (without_own set t.id)) (sym e) (record {
                  changes = λ waits. absurd (true≢false waits);
                  settings = λ waits. absurd (true≢false waits);
                  live = live-mine d.id at.1;
                  enlistments = seated x d seats;
                })
                | inr (old, other) ↦ counts-other true true u old (subst (λ i. same_id u.id i ≡ false) at.1 other)
              ]) refl refl (subst (λ k. Budget x.recorded.units k (own_without own t.id) s'.keys (without_own set t.id)) (sym tree)
              (subst (λ k. Budget x.recorded.units (tree_then lists x sound t undecided') (own_without own t.id) k (without_own set t.id)) (sym keys) (budget-then true true))) in (
                limits,
                record {
                  rises = Rises-while d;
                  decided = λ u has same. elim (IsIn-while d u has) [
                    | inl e ↦ ap (λ (q : Recorded). is_decided q.stage) e
                    | inr (old, other) ↦ absurd (true≢false (sym same ∙ ap (same_id u.id) (sym at.1) ∙ other))
                  ];
                  limits = limits;
                },
              )

-- ---- once it is decided

-- parts that are done are no more enlistments
parts-fewer : (done : DonePart) (ps : List RecordedPart) → length (gathered enlistments_in (parts_done done ps)) ≤ length (gathered enlistments_in ps)
parts-fewer done ps = if_cases (λ qs. length (gathered enlistments_in qs) ≤ length (gathered enlistments_in ps)) (is_of_enlistment done) _ _
    (λ out. fewer (λ (p : RecordedPart). not (is_part_of done p.part)) ps) (λ marked. let e = ap length (gathered-map enlistments_in (λ (p : RecordedPart). record p { is_done = p.is_done || is_part_of done p.part }) (λ p. refl) ps) in omega arith)
  where
    fewer : (keep : RecordedPart → Bool) (ps : List RecordedPart) → length (gathered enlistments_in (filter keep ps)) ≤ length (gathered enlistments_in ps)
    fewer keep [] = omega arith
    fewer keep (p ∷ ps) =
        let rest = fewer keep ps in
        let all = length-append (enlistments_in p.part) (gathered enlistments_in ps) in
        elim (cases_Bool (keep p)) [
          | inl is ↦ rw is (let some = length-append (enlistments_in p.part) (gathered enlistments_in (filter keep ps)) in omega arith)
          | inr not' ↦ rw not' (omega arith)
        ]

pub done-past : (t : Transaction) (s : Durable) (done : DonePart) → Past t s → (is_within_limits (fact_of s (Done t.id done)) ≡ true) × Past t (after_event s (Done t.id done))
unfolding is_within_limits
done-past t s done past = go (recorded_at s.transactions t.id) refl
  where
    go : (o : Option Recorded) → recorded_at s.transactions t.id ≡ o → (is_within_limits (finish_recorded s done o) ≡ true) × Past t (record (finish_recorded s done o) { events = s.events + 1 })
    go None none = (past.limits, record { rises = past.rises; decided = past.decided; limits = past.limits })
    go (Some r) found =
        let at = recorded_at-found s.transactions t.id r found in
        let u : Recorded = record r { parts = parts_done done r.parts } in
        let decided = past.decided r at.0 (same_id-from r.id t.id at.1) in
        let few : length (enlistments_of u) ≤ length (enlistments_of r) =
        let a = parts-fewer done r.parts in
        let b = length-append (superior_ids r.superior) (gathered enlistments_in r.parts) in
        let c = length-append (superior_ids r.superior) (gathered enlistments_in (parts_done done r.parts)) in
        omega arith in
        let limits = limits-less s (while_not_done s.transactions u) (Less-while s.transactions r u past.rises at.0 refl decided decided few) past.limits in (
          limits,
          record {
            rises = if_cases Rises (list_any (λ (p : RecordedPart). not p.is_done) u.parts) _ _ (λ stays. Rises-with_recorded s.transactions u past.rises) (λ over. each_pair-filter is_earlier (λ (v : Recorded). not (same_id v.id u.id)) s.transactions past.rises);
            decided = λ v has same. if_cases (λ ts. IsIn v ts → is_decided v.stage ≡ true) (list_any (λ (p : RecordedPart). not p.is_done) u.parts) _ _
                (λ stays has'. elim (IsIn-with_recorded s.transactions u v past.rises has') [ inl e ↦ ap (λ (q : Recorded). is_decided q.stage) e ∙ decided | inr old ↦ past.decided v old.0 same ])
                (λ over has'. past.decided v (IsIn-filter (λ (q : Recorded). not (same_id q.id u.id)) s.transactions v has').0 same) has;
            limits = limits;
          },
        )
