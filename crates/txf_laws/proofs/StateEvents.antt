-- Events that change the boot, the resource managers, or the committed files and keys, and those that take a transaction out.
use Rattle.std.proofs.Common.{◌≡◌, ℕ, ◌+◌, ◌-◌, ◌<◌, ◌≤◌, ◌^◌, ◌==◌, ◌&&◌, not, true, false, is_none, List, [], ◌∷◌, nat_lt, Some, None, refl, sym, ◌∙◌, ap, subst, arith, inl, inr, ◌⊎◌}
use Rattle.std.proofs.lemmas.Bool.{cases_Bool, and_parts, and_from, or_left, le-leb, ltb-true, eqb-true, not-true, true≢false, false_from_ne_true}
use Rattle.std.specs.List.{list_all, list_any}
use Rattle.ktm_base.specs.declared.id.Id.{Id}
use Rattle.ktm_world.specs.declared.change.Change.{Change}
use Rattle.ktm_world.specs.declared.event.Event.{Event}
use Rattle.ktm_world.specs.declared.event.Event.TheVariants.{Boot, MadeRm, Plain, Single, Undo}
use Rattle.ktm_world.specs.declared.event.Part.{Part}
use Rattle.ktm_world.specs.declared.event.Part.TheVariants.{Enlistment, Changes, Settings}
use Rattle.ktm_world.specs.Changes.{changed_all, changes_apply}
use Rattle.ktm_world.specs.Durable.{Durable, Recorded, is_ready, is_decided, is_before, is_manager, is_sole, with_manager, without_recorded, recorded_at, recorded_or_new, has_changes_part, has_settings_part, are_recorded_changes, changes_of, recorded_changes_apply, settings_apply, part_applies, next_after_all, fact_of, after_event, fact_applies, is_within_limits}
use Rattle.ktm_world.specs.Keys.{OwnSettings, stored_all, is_good_setting, are_good_settings}
use Rattle.ktm_world.specs.Transactions.{same_id}
use Rattle.txf_laws.specs.Elements.{IsIn, each_pair}
use Rattle.txf_laws.specs.Footprint.{footprint, AreFootprintsApart, ListsLaw}
use Rattle.txf_laws.specs.Formed.{FormedLaw}
use Rattle.txf_laws.specs.GoodState.{is_of_object, is_drawn, IsGoodState}
use Rattle.txf_laws.specs.Grammatical.{is_grammatical}
use Rattle.txf_laws.proofs.offered.Diamonds.{no_test}
use Rattle.txf_laws.proofs.offered.Elements.{list_all-at, list_all-from, list_any-at, list_any-from}
use Rattle.txf_laws.proofs.offered.Settings.{stored_all-rises, stored_all-good}
use Rattle.txf_laws.proofs.offered.Tables.{is_before-then, is_before-turned, recorded_at-there, Table-filter, Table-map}
use Rattle.txf_laws.proofs.offered.GoodTransactions.{Fitting, Beside, Rest, TableOf, good-from, table-of, rest-of}
use Rattle.txf_laws.proofs.offered.NodeNumbers.{next-rises, next-to, below-changed_all}
use Rattle.txf_laws.proofs.ChangedStates.{limits-counted, with_all, Rest-with, Rest-transactions, is_drawn-later, Core-carried, Fitting-carried, Beside-carried}
use Rattle.txf_laws.proofs.offered.Lists.{apart-from-none}
use Rattle.txf_laws.proofs.offered.WaitingChanges.{in_others-plain, in_others, settings-good, recorded_changes_apply-all, recorded_changes_apply-apart, SparesWaiting, waiting-apply, waiting-new, waiting-holds}

-- a good state stays good by the event, where it applies
abbrev pub Keeps : Durable → Event → Type 0
Keeps s event = IsGoodState s → is_grammatical event ≡ true → fact_applies s event ≡ true → is_within_limits (fact_of s event) ≡ true → s.events + 1 < 2 ^ 63 → IsGoodState (after_event s event)

-- an Id of the present boot that counts from 1
pub is_drawn-now : (s : Durable) (id : Id) → is_of_object id ≡ true → id.boot ≡ s.boots → is_drawn s id ≡ true
is_drawn-now s id counts now = and_from _ _ counts (le-leb _ _ (omega (arith, now)))

-- ---- boots

pub boot-keeps : (s : Durable) (boot : ℕ) → Keeps s (Boot boot)
boot-keeps s boot good spelled applies limits few = good-from s' (Table-filter (Fitting s) (Beside s) (Fitting s') (Beside s') (λ t. not (is_ready t.stage)) s.transactions (table-of s good)
    (λ t there keep fits. record { core = Core-carried s s' t later (λ m is. is) (omega arith) fits.core.apply fits.core.new fits.core; ready = or_left _ _ keep })
    (λ t u there there' keep keep' other sides. Beside-carried s s' t u refl sides)) record {
      counts = record { image_fits = rest.counts.image_fits; limits = limits-counted (fact_of s (Boot boot)) (s.events + 1) limits; events_left = few; boots_left = ltb-true boot (2 ^ 32 - 1) parts.1 };
      managers = record {
        rise = rest.managers.rise;
        drawn = list_all-from (is_drawn s') s.managers (λ id there. is_drawn-later s s' id later (list_all-at (is_drawn s) s.managers rest.managers.drawn id there));
      };
      files = rest.files;
      keys = rest.keys;
    }
  where
    s' : Durable
    s' = after_event s (Boot boot)

    rest : Rest s
    rest = rest-of s good

    parts : ((boot == s.boots + 1) ≡ true) × (nat_lt boot (2 ^ 32 - 1) ≡ true)
    parts = and_parts (boot == s.boots + 1) (nat_lt boot (2 ^ 32 - 1)) applies

    later : s.boots ≤ boot
    later = omega (arith, eqb-true boot (s.boots + 1) parts.0)

-- ---- resource managers

IsIn-with_manager : (ids : List Id) (id x : Id) → IsIn x (with_manager ids id) → (x ≡ id) ⊎ IsIn x ids
IsIn-with_manager [] id x (inl e) = inl (sym e)
IsIn-with_manager [] id x (inr none) = absurd none
IsIn-with_manager (a ∷ ids) id x there = elim (cases_Bool (is_before id a)) [
  | inl before ↦
      let there' : IsIn x (id ∷ a ∷ ids) = rw before at there in
      elim there' [ inl e ↦ inl (sym e) | inr later ↦ inr later ]
  | inr behind ↦
      let there' : IsIn x (a ∷ with_manager ids id) = rw behind at there in
      elim there' [ inl e ↦ inr (inl e) | inr later ↦ elim (IsIn-with_manager ids id x later) [ inl e ↦ inl e | inr old ↦ inr (inr old) ] ]
]

IsIn-with_manager-old : (ids : List Id) (id x : Id) → IsIn x ids → IsIn x (with_manager ids id)
IsIn-with_manager-old [] id x there = absurd there
IsIn-with_manager-old (a ∷ ids) id x there = elim (cases_Bool (is_before id a)) [
  | inl before ↦ rw before (inr there)
  | inr behind ↦ rw behind (elim there [ inl e ↦ inl e | inr later ↦ inr (IsIn-with_manager-old ids id x later) ])
]

rises-with_manager : (ids : List Id) (id : Id) → each_pair is_before ids ≡ true → list_any (λ other. same_id other id) ids ≡ false → each_pair is_before (with_manager ids id) ≡ true
rises-with_manager [] id rises new = refl
rises-with_manager (a ∷ ids) id rises new =
    let parts = and_parts (list_all (is_before a) ids) (each_pair is_before ids) rises in
    elim (cases_Bool (is_before id a)) [
      | inl before ↦ rw before (and_from _ _
          (and_from _ _ before (list_all-from (is_before id) ids (λ x there. is_before-then id a x before (list_all-at (is_before a) ids parts.0 x there)))) rises)
      | inr behind ↦ rw behind (and_from _ _
          (list_all-from (is_before a) (with_manager ids id) (λ x there. elim (IsIn-with_manager ids id x there) [
            | inl e ↦ subst (λ (y : Id). is_before a y ≡ true) (sym e) (is_before-turned a id (no_test (λ other. same_id other id) a (a ∷ ids) new (inl refl)) behind)
            | inr old ↦ list_all-at (is_before a) ids parts.0 x old
          ]))
          (rises-with_manager ids id parts.1 (false_from_ne_true _ (λ some. let found = list_any-at (λ other. same_id other id) ids some in
          true≢false (sym found.2 ∙ no_test (λ other. same_id other id) found.0 (a ∷ ids) new (inr found.1))))))
    ]

pub made-keeps : (s : Durable) (manager : Id) → Keeps s (MadeRm manager)
made-keeps s manager good spelled applies limits few = good-from s' (Table-map (Fitting s) (Beside s) (Fitting s') (Beside s') s.transactions (table-of s good)
    (λ t there fits. Fitting-carried s s' t refl managers (omega arith) fits.core.apply fits.core.new fits)
    (λ t u there there' other sides. Beside-carried s s' t u refl sides)) record {
      counts = record { image_fits = rest.counts.image_fits; limits = limits-counted (fact_of s (MadeRm manager)) (s.events + 1) limits; events_left = few; boots_left = rest.counts.boots_left };
      managers = record {
        rise = rises-with_manager s.managers manager rest.managers.rise (not-true _ parts.1);
        drawn = list_all-from (is_drawn s') (with_manager s.managers manager) (λ id there. elim (IsIn-with_manager s.managers manager id there) [
          | inl e ↦ subst (λ (x : Id). is_drawn s x ≡ true) (sym e) (is_drawn-now s manager counts (eqb-true _ _ parts.0))
          | inr old ↦ list_all-at (is_drawn s) s.managers rest.managers.drawn id old
        ]);
      };
      files = rest.files;
      keys = rest.keys;
    }
  where
    s' : Durable
    s' = after_event s (MadeRm manager)

    rest : Rest s
    rest = rest-of s good

    parts : ((manager.boot == s.boots) ≡ true) × (not (is_manager s manager) ≡ true)
    parts = and_parts (manager.boot == s.boots) (not (is_manager s manager)) applies

    counts : is_of_object manager ≡ true
    counts = (and_parts (is_of_object manager) true (and_parts (list_all is_of_object (manager ∷ [])) true spelled).0).0

    managers : (m : Id) → is_manager s m ≡ true → is_manager s' m ≡ true
    managers m is =
        let found = list_any-at (λ other. same_id other m) s.managers is in
        list_any-from (λ other. same_id other m) (with_manager s.managers manager) found.0 (IsIn-with_manager-old s.managers manager found.0 found.1) found.2

-- ---- a transaction that is taken out

pub undo-keeps : (s : Durable) (transaction : Id) → Keeps s (Undo transaction)
undo-keeps s transaction good spelled applies limits few = good-from s' (Table-filter (Fitting s) (Beside s) (Fitting s') (Beside s') (λ t. not (same_id t.id transaction)) s.transactions (table-of s good)
    (λ t there keep fits. Fitting-carried s s' t refl (λ m is. is) (omega arith) fits.core.apply fits.core.new fits)
    (λ t u there there' keep keep' other sides. Beside-carried s s' t u refl sides))
    (Rest-transactions s (without_recorded s.transactions transaction) (s.events + 1) (rest-of s good) (limits-counted (fact_of s (Undo transaction)) (s.events + 1) limits) few)
  where
    s' : Durable
    s' = after_event s (Undo transaction)

-- ---- changes and settings that are committed

pub Beside-committed : (s s' : Durable) (t u : Recorded) → (is_decided t.stage ≡ false → footprint s'.tree (changes_of t) ≡ footprint s.tree (changes_of t))
    → (is_decided u.stage ≡ false → footprint s'.tree (changes_of u) ≡ footprint s.tree (changes_of u)) → Beside s t u → Beside s' t u
Beside-committed s s' t u holds holds' sides = record {
  enlistments = sides.enlistments;
  files = λ waits waits'. subst (λ f. AreFootprintsApart f (footprint s'.tree (changes_of u))) (sym (holds waits))
      (subst (λ f. AreFootprintsApart (footprint s.tree (changes_of t)) f) (sym (holds' waits')) (sides.files waits waits'));
  keys = sides.keys;
}

module _ (lists : ListsLaw) (formed : FormedLaw) where
  -- the rest of a state in which changes and settings were committed
  pub Rest-committed : (s : Durable) (cs : List Change) (ss : OwnSettings) (ts : List Recorded) → Rest s → changes_apply s.tree cs ≡ true → list_all is_good_setting ss ≡ true
      → is_within_limits (with_all s (changed_all s.tree cs) (stored_all s.keys ss) (next_after_all s.next_node cs) ts (s.events + 1)) ≡ true → s.events + 1 < 2 ^ 63
      → Rest (with_all s (changed_all s.tree cs) (stored_all s.keys ss) (next_after_all s.next_node cs) ts (s.events + 1))
  Rest-committed s cs ss ts rest all good limits few =
      Rest-with s (changed_all s.tree cs) (stored_all s.keys ss) (next_after_all s.next_node cs) ts (s.events + 1) rest limits few
      record {
        formed = formed.1 s.tree cs rest.files.formed all;
        below = below-changed_all cs s.next_node s.tree rest.files.below;
        from = let more = next-rises cs s.next_node in omega (arith, more, rest.files.from);
        to = next-to s.tree cs s.next_node all rest.files.to;
      }
      record { rise = stored_all-rises s.keys ss rest.keys.rise; good = stored_all-good s.keys ss good rest.keys.good }

  commit-keeps : (s : Durable) (cs : List Change) (ss : OwnSettings) → IsGoodState s → changes_apply s.tree cs ≡ true → ((u : Recorded) → IsIn u s.transactions → SparesWaiting s cs u)
      → list_all is_good_setting ss ≡ true
      → is_within_limits (with_all s (changed_all s.tree cs) (stored_all s.keys ss) (next_after_all s.next_node cs) s.transactions (s.events + 1)) ≡ true → s.events + 1 < 2 ^ 63
      → IsGoodState (with_all s (changed_all s.tree cs) (stored_all s.keys ss) (next_after_all s.next_node cs) s.transactions (s.events + 1))
  commit-keeps s cs ss good all spares good_settings limits few = good-from s' (Table-map (Fitting s) (Beside s) (Fitting s') (Beside s') s.transactions table
      (λ t there fits. Fitting-carried s s' t refl (λ m is. is) (next-rises cs s.next_node) (waiting-apply lists s good.files cs all t fits.core.changes fits.core.apply (spares t there)) (waiting-new lists s good.files cs all t fits.core.changes fits.core.new (spares t there)) fits)
      (λ t u there there' other sides. Beside-committed s s' t u
      (waiting-holds lists s good.files cs all t (table.fit t there).core.apply (spares t there)) (waiting-holds lists s good.files cs all u (table.fit u there').core.apply (spares u there')) sides))
      (Rest-committed s cs ss s.transactions (rest-of s good) all good_settings limits few)
    where
      s' : Durable
      s' = with_all s (changed_all s.tree cs) (stored_all s.keys ss) (next_after_all s.next_node cs) s.transactions (s.events + 1)

      table : TableOf s s.transactions
      table = table-of s good

  pub plain-keeps : (s : Durable) (change : Change) → Keeps s (Plain change)
  plain-keeps s change good spelled applies limits few =
      commit-keeps s (change ∷ []) [] good (recorded_changes_apply-all s None (change ∷ []) applies)
      (λ u there waiting. recorded_changes_apply-apart s None (change ∷ []) applies u (in_others-plain s u there waiting) ((table-of s good).fit u there).core.apply)
      refl (limits-counted (fact_of s (Plain change)) (s.events + 1) limits) few

  pub single-keeps : (s : Durable) (transaction : Id) (part : Part) → Keeps s (Single transaction part)
  single-keeps s transaction part good spelled applies limits few = go part (and_parts _ (is_sole part) parts.0).1 parts.1 limits
    where
      parts : ((transaction.boot == s.boots && is_none (recorded_at s.transactions transaction) && is_sole part) ≡ true) × (part_applies s transaction part ≡ true)
      parts = and_parts (transaction.boot == s.boots && is_none (recorded_at s.transactions transaction) && is_sole part) (part_applies s transaction part) applies

      new : is_none (recorded_at s.transactions transaction) ≡ true
      new = (and_parts (transaction.boot == s.boots) (is_none (recorded_at s.transactions transaction)) (and_parts _ (is_sole part) parts.0).0).1

      other : (u : Recorded) → IsIn u s.transactions → u.id ≡ transaction → ⊥
      other u there e = true≢false (sym new ∙ ap (λ o. is_none o) (ap (recorded_at s.transactions) (sym e) ∙ recorded_at-there s.transactions good.transactions_rise u there))

      go : (part : Part) → is_sole part ≡ true → part_applies s transaction part ≡ true → is_within_limits (fact_of s (Single transaction part)) ≡ true → IsGoodState (after_event s (Single transaction part))
      go (Enlistment enlistment manager information) sole part_applies limits = absurd (true≢false (sym sole))
      go (Changes cs) sole part_applies limits =
          let apply = (and_parts (not (has_changes_part (recorded_or_new s.transactions transaction)) && are_recorded_changes cs) (recorded_changes_apply s (Some transaction) cs) part_applies).1 in
          commit-keeps s cs [] good (recorded_changes_apply-all s (Some transaction) cs apply)
          (λ u there waiting. recorded_changes_apply-apart s (Some transaction) cs apply u (in_others s transaction u there waiting (other u there)) ((table-of s good).fit u there).core.apply)
          refl (limits-counted (fact_of s (Single transaction (Changes cs))) (s.events + 1) limits) few
      go (Settings ss) sole part_applies limits =
          let fits = and_parts (not (has_settings_part (recorded_or_new s.transactions transaction)) && are_good_settings ss) (settings_apply s (Some transaction) ss) part_applies in
          commit-keeps s [] ss good refl (λ u there waiting. apart-from-none s.tree (changes_of u))
          (settings-good ss (and_parts (not (has_settings_part (recorded_or_new s.transactions transaction))) (are_good_settings ss) fits.0).1)
          (limits-counted (fact_of s (Single transaction (Settings ss))) (s.events + 1) limits) few
