-- Events by which a transaction gets ready, and waits for its superior.
use Rattle.std.proofs.Common.{◌≤◌, ◌≡◌, ℕ, ◌+◌, ◌<◌, ◌^◌, ◌==◌, ◌&&◌, ◌||◌, not, Bool, true, false, cond, is_none, List, [], ◌∷◌, ◌++◌, length, nat_le, Option, Some, None, refl, sym, ◌∙◌, ap, subst, append_assoc, arith, inl, inr, ◌⊎◌}
use Rattle.std.proofs.lemmas.Bool.{and_parts, and_from, or_cases, or_left, or_right, le-leb, leb-true, eqb-true, not-true, not_from_false, true≢false}
use Rattle.std.proofs.lemmas.List.Folds.{list_all-append}
use Rattle.std.specs.List.{list_all, list_any}
use Rattle.ktm_base.specs.declared.limits.TheConstants.{MOST_INFORMATION_BYTES}
use Rattle.ktm_base.specs.declared.id.Id.{Id}
use Rattle.ktm_world.specs.declared.change.Change.{Change}
use Rattle.ktm_world.specs.declared.recorded.RecordedPart.{RecordedPart}
use Rattle.ktm_world.specs.declared.recorded.Stage.{Stage}
use Rattle.ktm_world.specs.declared.recorded.Superior.{Superior}
use Rattle.ktm_world.specs.declared.event.DonePart.{DonePart}
use Rattle.ktm_world.specs.declared.event.Event.TheVariants.{Ready}
use Rattle.ktm_world.specs.declared.event.Part.{Part}
use Rattle.ktm_world.specs.declared.event.Part.TheVariants.{Enlistment, Changes, Settings}
use Rattle.ktm_world.specs.Changes.{changes_apply, has_changes}
use Rattle.ktm_world.specs.Durable.{Durable, Recorded, is_ready, is_decided, is_manager, is_part_of, is_new_in, is_new_enlistment, changes_in, settings_in, enlistments_in, changes_of, settings_of, enlistments_of, superior_ids, has_changes_part, has_settings_part, has_part, are_recorded_changes, recorded_changes_apply, settings_apply, part_applies, may_get_ready, recorded_or_new, with_recorded, next_after_all, fact_of, after_event, is_within_limits}
use Rattle.ktm_world.specs.Keys.{OwnSettings, are_good_settings}
use Rattle.ktm_world.specs.Lawful.{set_both}
use Rattle.ktm_world.specs.Transactions.{same_id}
use Rattle.txf_laws.specs.Elements.{IsIn, each_pair}
use Rattle.txf_laws.specs.Footprint.{footprint, AreFootprintsApart}
use Rattle.txf_laws.specs.Contents.{is_made_below, puts_some}
use Rattle.txf_laws.specs.GoodState.{is_of_object, enlisted_in, superiors_in, enlisted, has_one_part_each, is_done_well, are_kept_changes, are_kept_settings, IsGoodState}
use Rattle.txf_laws.specs.Grammatical.{ids_in}
use Rattle.txf_laws.proofs.offered.Diamonds.{IsIn-right, no_test}
use Rattle.txf_laws.proofs.offered.Lists.{IsIn-cases, apart-from-none}
use Rattle.txf_laws.proofs.offered.Elements.{list_any-from, each_pair-append}
use Rattle.txf_laws.proofs.offered.Parts.{gathered, is_among, gathered-push, gathered-push_none, is_among-push, count_among, count_among-push, count_among-none}
use Rattle.txf_laws.proofs.offered.Tables.{same_id-sym, fresh, recorded_or_new-cases, KnownOrNew, Table-with}
use Rattle.txf_laws.proofs.offered.GoodTransactions.{differ, IsEnlisted, Core, Fitting, Beside, Beside-sym, Rest, TableOf, good-from, table-of, rest-of}
use Rattle.txf_laws.proofs.offered.NodeNumbers.{next-rises, next-made, next-to, below-more}
use Rattle.txf_laws.proofs.ChangedStates.{limits-counted, with_all, Rest-with, Fitting-carried, Beside-carried}
use Rattle.txf_laws.proofs.offered.WaitingChanges.{no_changes_part, no_settings_part, in_others, recorded_changes_apply-all, recorded_changes_apply-new, recorded_changes_apply-apart, settings_apply-apart}
use Rattle.txf_laws.proofs.StateEvents.{Keeps, is_drawn-now}

-- ---- a transaction that gets ready

pub record Begun (s : Durable) (id : Id) (t : Recorded) : Type 0 where
  pub core : Core s t
  pub is : t.id ≡ id
  pub now : id.boot ≡ s.boots
  pub alone : t.superior ≡ None
  pub stage : t.stage ≡ Stage.Ready
  pub beside : (u : Recorded) → IsIn u s.transactions → (u.id ≡ id → ⊥) → Beside s t u
  pub whose : (a : Id) → IsIn a (enlistments_of t) → (u : Recorded) × IsIn u s.transactions × IsIn a (enlistments_of u)

ready-is : (stage : Stage) → is_ready stage ≡ true → stage ≡ Stage.Ready
ready-is Stage.Ready is = refl
ready-is Stage.Held is = absurd (true≢false (sym is))
ready-is Stage.Decided is = absurd (true≢false (sym is))

none-is : (o : Option Superior) → is_none o ≡ true → o ≡ None
none-is None is = refl
none-is (Some superior) is = absurd (true≢false (sym is))

begun-fresh : (s : Durable) (id : Id) → is_of_object id ≡ true → id.boot ≡ s.boots → Begun s id (fresh id)
begun-fresh s id counts now = record {
  core = record {
    drawn = is_drawn-now s id counts now;
    enlistments = λ e none. absurd none;
    differ = refl;
    parts = refl;
    held = refl;
    decided = refl;
    done = refl;
    changes = refl;
    apply = refl;
    made = refl;
    new = refl;
    puts = refl;
    settings = refl;
  };
  is = refl;
  now = now;
  alone = refl;
  stage = refl;
  beside = λ u there other. record {
    enlistments = λ a b none. absurd none;
    files = λ waits waits'. apart-from-none s.tree (changes_of u);
    keys = λ waits waits'. refl;
  };
  whose = λ a none. absurd none;
}

pub begun : (s : Durable) (id : Id) → IsGoodState s → is_of_object id ≡ true → may_get_ready s id ≡ true → Begun s id (recorded_or_new s.transactions id)
begun s id good counts may = go (recorded_or_new s.transactions id) (and_parts (id.boot == s.boots) (is_ready (recorded_or_new s.transactions id).stage) may).1 (recorded_or_new-cases s.transactions id)
  where
    now : id.boot ≡ s.boots
    now = eqb-true _ _ (and_parts (id.boot == s.boots) (is_ready (recorded_or_new s.transactions id).stage) may).0

    table : TableOf s s.transactions
    table = table-of s good

    go : (t : Recorded) → is_ready t.stage ≡ true → KnownOrNew s.transactions id t → Begun s id t
    go t ready (inl (there, is)) = record {
      core = (table.fit t there).core;
      is = is;
      now = now;
      alone = elim (or_cases _ _ (table.fit t there).ready) [
        | inl other ↦ absurd (true≢false (sym ready ∙ not-true _ other))
        | inr well ↦ none-is t.superior (and_parts (has_part t) (is_none t.superior) well).1
      ];
      stage = ready-is t.stage ready;
      beside = λ u there' other. table.beside t u there there' (λ e. other (sym e ∙ is));
      whose = λ a has. (t, there, has);
    }
    go t ready (inr new) = subst (Begun s id) (sym new) (begun-fresh s id counts now)

-- an enlistment that is new is nobody's
pub new-enlistment : (s : Durable) (enlistment manager : Id) (information : List ℕ) → is_new_enlistment s enlistment manager information ≡ true → (u : Recorded) → IsIn u s.transactions
    → (a : Id) → IsIn a (enlistments_of u) → same_id a enlistment ≡ false
new-enlistment s enlistment manager information new u there a has =
    let c = and_parts _ (nat_le (length information) MOST_INFORMATION_BYTES) new in
    let b = and_parts _ (is_manager s manager) c.0 in
    let a' = and_parts (enlistment.boot == s.boots) (not (list_any (λ (t : Recorded). list_any (λ other. same_id other enlistment) (enlistments_of t)) s.transactions)) b.0 in
    no_test (λ other. same_id other enlistment) a (enlistments_of u) (no_test (λ (t : Recorded). list_any (λ other. same_id other enlistment) (enlistments_of t)) u s.transactions (not-true _ a'.1) there) has

-- an enlistment that is new may be enlisted
pub new-enlisted : (s : Durable) (e : Superior) → is_of_object e.enlistment ≡ true → is_new_enlistment s e.enlistment e.manager e.information ≡ true → IsEnlisted s e
new-enlisted s e counts new =
    let c = and_parts _ (nat_le (length e.information) MOST_INFORMATION_BYTES) new in
    let b = and_parts _ (is_manager s e.manager) c.0 in
    let a = and_parts (e.enlistment.boot == s.boots) (not (list_any (λ (t : Recorded). list_any (λ other. same_id other e.enlistment) (enlistments_of t)) s.transactions)) b.0 in
    record { drawn = is_drawn-now s e.enlistment counts (eqb-true _ _ a.0); manager = b.1; information = c.1 }

-- what is kept is asked of stage, changes and settings alone
pub kept_changes-same : (t u : Recorded) → is_decided t.stage ≡ is_decided u.stage → changes_of t ≡ changes_of u → has_changes_part t ≡ has_changes_part u → are_kept_changes t ≡ are_kept_changes u
kept_changes-same t u stage changes has i = (not (stage i) || not (has_changes (changes i))) && (stage i || not (has i) || are_recorded_changes (changes i))

pub kept_settings-same : (t u : Recorded) → is_decided t.stage ≡ is_decided u.stage → settings_of t ≡ settings_of u → has_settings_part t ≡ has_settings_part u → are_kept_settings t ≡ are_kept_settings u
kept_settings-same t u stage settings has i = (not (stage i) || length (settings i) == 0) && (stage i || not (has i) || are_good_settings (settings i))

-- ---- one part more

-- the transaction with one part more
abbrev pushed : Recorded → Part → Recorded
pushed t part = record t { parts = t.parts ++ record { is_done = false; part = part } ∷ [] }

-- the state in which it has one
abbrev with_pushed : Durable → Recorded → Part → Durable
with_pushed s t part = with_all s s.tree s.keys (next_after_all s.next_node (changes_in part)) (with_recorded s.transactions (pushed t part)) (s.events + 1)

-- what the part asks
record Adds (s : Durable) (id : Id) (t : Recorded) (part : Part) : Type 0 where
  enlisted : (e : Superior) → IsIn e (enlisted_in part) → IsEnlisted s e
  differ : each_pair differ (enlistments_in part) ≡ true
  new : (a : Id) → IsIn a (enlistments_in part) → (u : Recorded) → IsIn u s.transactions → (b : Id) → IsIn b (enlistments_of u) → same_id b a ≡ false
  parts : has_one_part_each (pushed t part) ≡ true
  changes : are_kept_changes (pushed t part) ≡ true
  apply : changes_apply s.tree (changes_of (pushed t part)) ≡ true
  made : list_all (is_made_below (next_after_all s.next_node (changes_in part))) (changes_of (pushed t part)) ≡ true
  unmade : list_all (is_new_in s.tree) (changes_of (pushed t part)) ≡ true
  puts : list_all puts_some (changes_of (pushed t part)) ≡ true
  settings : are_kept_settings (pushed t part) ≡ true
  files : (u : Recorded) → IsIn u s.transactions → (u.id ≡ id → ⊥) → is_decided u.stage ≡ false → AreFootprintsApart (footprint s.tree (changes_of (pushed t part))) (footprint s.tree (changes_of u))
  keys : (u : Recorded) → IsIn u s.transactions → (u.id ≡ id → ⊥) → is_decided u.stage ≡ false → set_both (settings_of (pushed t part)) (settings_of u) ≡ false
  all : changes_apply s.tree (changes_in part) ≡ true

enlistments-pushed : (t : Recorded) (part : Part) → enlistments_of (pushed t part) ≡ enlistments_of t ++ enlistments_in part
enlistments-pushed t part =
    ap (λ xs. superior_ids t.superior ++ xs) (gathered-push enlistments_in t.parts (record { is_done = false; part = part })) ∙ sym (append_assoc (superior_ids t.superior) (gathered enlistments_in t.parts) (enlistments_in part))

enlisted-pushed : (t : Recorded) (part : Part) → enlisted (pushed t part) ≡ enlisted t ++ enlisted_in part
enlisted-pushed t part =
    ap (λ xs. superiors_in t.superior ++ xs) (gathered-push enlisted_in t.parts (record { is_done = false; part = part })) ∙ sym (append_assoc (superiors_in t.superior) (gathered enlisted_in t.parts) (enlisted_in part))

module _ (s : Durable) (id : Id) (t : Recorded) (start : Begun s id t) (part : Part) (adds : Adds s id t part) where
  abbrev s' : Durable
  s' = with_pushed s t part

  Core-pushed : Core s' (pushed t part)
  Core-pushed = record {
    drawn = start.core.drawn;
    enlistments = λ e there. let is = enlisted-one e (IsIn-cases e (enlisted t) (enlisted_in part) (subst (λ es. IsIn e es) (enlisted-pushed t part) there)) in
        record { drawn = is.drawn; manager = is.manager; information = is.information };
    differ = rw (enlistments-pushed t part) (each_pair-append differ (enlistments_of t) (enlistments_in part) start.core.differ adds.differ
        (λ a b has has'. let of = start.whose a has in not_from_false _ (adds.new b has' of.0 of.1 a of.2)));
    parts = adds.parts;
    held = start.core.held;
    decided = or_left _ _ (not_from_false _ (ap is_decided start.stage));
    done = list_all-append (is_done_well (pushed t part)) t.parts _ ∙ and_from _ _ start.core.done refl;
    changes = adds.changes;
    apply = adds.apply;
    made = adds.made;
    new = adds.unmade;
    puts = adds.puts;
    settings = adds.settings;
  }
    where
      enlisted-one : (e : Superior) → IsIn e (enlisted t) ⊎ IsIn e (enlisted_in part) → IsEnlisted s e
      enlisted-one e (inl old) = start.core.enlistments e old
      enlisted-one e (inr new) = adds.enlisted e new

  Fitting-pushed : Fitting s' (pushed t part)
  Fitting-pushed = record {
    core = Core-pushed;
    ready = or_right _ _ (and_from _ _ (list_any-from (λ (q : RecordedPart). true) (t.parts ++ record { is_done = false; part = part } ∷ []) _ (IsIn-right _ t.parts _ (inl refl)) refl)
        (ap (λ o. is_none o) start.alone));
  }

  Beside-pushed : (u : Recorded) → IsIn u s.transactions → (u.id ≡ id → ⊥) → Beside s' (pushed t part) u
  Beside-pushed u there other = record {
    enlistments = λ a b has has'. one a b has' (IsIn-cases a (enlistments_of t) (enlistments_in part) (subst (λ es. IsIn a es) (enlistments-pushed t part) has));
    files = λ waits waits'. adds.files u there other waits';
    keys = λ waits waits'. adds.keys u there other waits';
  }
    where
      one : (a b : Id) → IsIn b (enlistments_of u) → IsIn a (enlistments_of t) ⊎ IsIn a (enlistments_in part) → same_id a b ≡ false
      one a b has' (inl old) = (start.beside u there other).enlistments a b old has'
      one a b has' (inr new) = same_id-sym b a (adds.new a new u there b has')

  pushed-good : IsGoodState s → is_within_limits s' ≡ true → s.events + 1 < 2 ^ 63 → IsGoodState s'
  pushed-good good limits few = good-from (with_pushed s t part) (Table-with (Fitting s) (Beside s) (Fitting s') (Beside s') s.transactions (pushed t part) (table-of s good)
      (λ u there other fits. Fitting-carried s s' u refl (λ m is. is) (next-rises (changes_in part) s.next_node) fits.core.apply fits.core.new fits)
      (λ u v there there' other other' sides. Beside-carried s s' u v refl sides)
      Fitting-pushed
      (λ u there other. let sides = Beside-pushed u there (λ e. other (e ∙ sym start.is)) in (sides, Beside-sym s' (pushed t part) u sides)))
      (Rest-with s s.tree s.keys (next_after_all s.next_node (changes_in part)) (with_recorded s.transactions (pushed t part)) (s.events + 1) rest limits few
      record {
        formed = rest.files.formed;
        below = below-more s.next_node (next_after_all s.next_node (changes_in part)) s.tree more rest.files.below;
        from = omega (arith, more, rest.files.from);
        to = next-to s.tree (changes_in part) s.next_node adds.all rest.files.to;
      }
      rest.keys)
    where
      more : s.next_node ≤ next_after_all s.next_node (changes_in part)
      more = next-rises (changes_in part) s.next_node

      rest : Rest s
      rest = rest-of s good

-- ---- what each kind of part asks

is_among-same : (test : Part → Bool) (ps : List RecordedPart) (p : RecordedPart) → test p.part ≡ false → is_among test (ps ++ p ∷ []) ≡ is_among test ps
is_among-same test ps p other = is_among-push test ps p ∙ ap (λ b. is_among test ps || b) other ∙ or_none (is_among test ps)
  where
    or_none : (b : Bool) → (b || false) ≡ b
    or_none true = refl
    or_none false = refl

count_among-same : (test : Part → Bool) (ps : List RecordedPart) (p : RecordedPart) → test p.part ≡ false → nat_le (count_among test ps) 1 ≡ true → nat_le (count_among test (ps ++ p ∷ [])) 1 ≡ true
count_among-same test ps p other few =
    let more = count_among-push test ps p ∙ ap (λ b. count_among test ps + cond b 1 0) other in le-leb _ _ (omega (arith, leb-true _ _ few, more))

count_among-first : (test : Part → Bool) (ps : List RecordedPart) (p : RecordedPart) → test p.part ≡ true → is_among test ps ≡ false → nat_le (count_among test (ps ++ p ∷ [])) 1 ≡ true
count_among-first test ps p is none =
    let more = count_among-push test ps p ∙ ap (λ b. count_among test ps + cond b 1 0) is in le-leb _ _ (omega (arith, count_among-none test ps none, more))

-- a transaction has no more changes by a part that has none, and no more settings
module _ (s : Durable) (id : Id) (t : Recorded) (start : Begun s id t) where
  counts : (nat_le (count_among (is_part_of DonePart.Files) t.parts) 1 ≡ true) × (nat_le (count_among (is_part_of DonePart.Keys) t.parts) 1 ≡ true)
  counts = and_parts (nat_le (count_among (is_part_of DonePart.Files) t.parts) 1) (nat_le (count_among (is_part_of DonePart.Keys) t.parts) 1) start.core.parts

  waiting : is_decided t.stage ≡ false
  waiting = ap is_decided start.stage

  same_changes : (part : Part) → changes_in part ≡ [] → changes_of t ≡ changes_of (pushed t part)
  same_changes part none = sym (gathered-push_none changes_in t.parts (record { is_done = false; part = part }) none)

  same_settings : (part : Part) → settings_in part ≡ [] → settings_of t ≡ settings_of (pushed t part)
  same_settings part none = sym (gathered-push_none settings_in t.parts (record { is_done = false; part = part }) none)

  old_changes : (part : Part) → changes_in part ≡ [] → is_part_of DonePart.Files part ≡ false → are_kept_changes (pushed t part) ≡ true
  old_changes part none other =
      sym (kept_changes-same t (pushed t part) refl (same_changes part none) (sym (is_among-same (is_part_of DonePart.Files) t.parts (record { is_done = false; part = part }) other))) ∙ start.core.changes

  old_settings : (part : Part) → settings_in part ≡ [] → is_part_of DonePart.Keys part ≡ false → are_kept_settings (pushed t part) ≡ true
  old_settings part none other =
      sym (kept_settings-same t (pushed t part) refl (same_settings part none) (sym (is_among-same (is_part_of DonePart.Keys) t.parts (record { is_done = false; part = part }) other))) ∙ start.core.settings

  old_files : (part : Part) → changes_in part ≡ [] → (u : Recorded) → IsIn u s.transactions → (u.id ≡ id → ⊥) → is_decided u.stage ≡ false
      → AreFootprintsApart (footprint s.tree (changes_of (pushed t part))) (footprint s.tree (changes_of u))
  old_files part none u there other waits =
      subst (λ cs. AreFootprintsApart (footprint s.tree cs) (footprint s.tree (changes_of u))) (same_changes part none) ((start.beside u there other).files waiting waits)

  old_keys : (part : Part) → settings_in part ≡ [] → (u : Recorded) → IsIn u s.transactions → (u.id ≡ id → ⊥) → is_decided u.stage ≡ false → set_both (settings_of (pushed t part)) (settings_of u) ≡ false
  old_keys part none u there other waits = subst (λ ss. set_both ss (settings_of u) ≡ false) (same_settings part none) ((start.beside u there other).keys waiting waits)

  adds-enlistment : (e : Superior) → is_of_object e.enlistment ≡ true → is_new_enlistment s e.enlistment e.manager e.information ≡ true → Adds s id t (Enlistment e.enlistment e.manager e.information)
  adds-enlistment e counted is_new = let part = Enlistment e.enlistment e.manager e.information in record {
    enlisted = λ e' there. elim there [ inl is ↦ subst (IsEnlisted s) is (new-enlisted s e counted is_new) | inr none ↦ absurd none ];
    differ = refl;
    new = λ a there u in_ts b has. elim there [ inl is ↦ subst (λ (x : Id). same_id b x ≡ false) is (new-enlistment s e.enlistment e.manager e.information is_new u in_ts b has) | inr none ↦ absurd none ];
    parts = and_from _ _ (count_among-same (is_part_of DonePart.Files) t.parts _ refl counts.0) (count_among-same (is_part_of DonePart.Keys) t.parts _ refl counts.1);
    changes = old_changes part refl refl;
    apply = subst (λ cs. changes_apply s.tree cs ≡ true) (same_changes part refl) start.core.apply;
    made = subst (λ cs. list_all (is_made_below s.next_node) cs ≡ true) (same_changes part refl) start.core.made;
    unmade = subst (λ cs. list_all (is_new_in s.tree) cs ≡ true) (same_changes part refl) start.core.new;
    puts = subst (λ cs. list_all puts_some cs ≡ true) (same_changes part refl) start.core.puts;
    settings = old_settings part refl refl;
    files = old_files part refl;
    keys = old_keys part refl;
    all = refl;
  }

  adds-changes : (cs : List Change) → list_all puts_some cs ≡ true → has_changes_part t ≡ false → are_recorded_changes cs ≡ true → recorded_changes_apply s (Some id) cs ≡ true
      → ((u : Recorded) → IsIn u s.transactions → changes_apply s.tree (changes_of u) ≡ true) → Adds s id t (Changes cs)
  adds-changes cs some first recorded applies others_apply = let part = Changes cs in record {
    enlisted = λ e none. absurd none;
    differ = refl;
    new = λ a none. absurd none;
    parts = and_from _ _ (count_among-first (is_part_of DonePart.Files) t.parts _ refl first) (count_among-same (is_part_of DonePart.Keys) t.parts _ refl counts.1);
    changes = and_from _ _ (or_left _ _ (not_from_false _ waiting)) (or_right _ _ (subst (λ xs. are_recorded_changes xs ≡ true) (sym are) recorded));
    apply = subst (λ xs. changes_apply s.tree xs ≡ true) (sym are) (recorded_changes_apply-all s (Some id) cs applies);
    made = subst (λ xs. list_all (is_made_below (next_after_all s.next_node cs)) xs ≡ true) (sym are) (next-made cs s.next_node);
    unmade = subst (λ xs. list_all (is_new_in s.tree) xs ≡ true) (sym are) (recorded_changes_apply-new s (Some id) cs applies);
    puts = subst (λ xs. list_all puts_some xs ≡ true) (sym are) some;
    settings = old_settings part refl refl;
    files = λ u there other waits. subst (λ xs. AreFootprintsApart (footprint s.tree xs) (footprint s.tree (changes_of u))) (sym are)
        (recorded_changes_apply-apart s (Some id) cs applies u (in_others s id u there waits other) (others_apply u there));
    keys = old_keys part refl;
    all = recorded_changes_apply-all s (Some id) cs applies;
  }
    where
      are : changes_of (pushed t (Changes cs)) ≡ cs
      are = gathered-push changes_in t.parts (record { is_done = false; part = Changes cs }) ∙ ap (λ xs. xs ++ cs) (no_changes_part t first)

  adds-settings : (ss : OwnSettings) → has_settings_part t ≡ false → are_good_settings ss ≡ true → settings_apply s (Some id) ss ≡ true → Adds s id t (Settings ss)
  adds-settings ss first good applies = let part = Settings ss in record {
    enlisted = λ e none. absurd none;
    differ = refl;
    new = λ a none. absurd none;
    parts = and_from _ _ (count_among-same (is_part_of DonePart.Files) t.parts _ refl counts.0) (count_among-first (is_part_of DonePart.Keys) t.parts _ refl first);
    changes = old_changes part refl refl;
    apply = subst (λ cs. changes_apply s.tree cs ≡ true) (same_changes part refl) start.core.apply;
    made = subst (λ cs. list_all (is_made_below s.next_node) cs ≡ true) (same_changes part refl) start.core.made;
    unmade = subst (λ cs. list_all (is_new_in s.tree) cs ≡ true) (same_changes part refl) start.core.new;
    puts = subst (λ cs. list_all puts_some cs ≡ true) (same_changes part refl) start.core.puts;
    settings = and_from _ _ (or_left _ _ (not_from_false _ waiting)) (or_right _ _ (subst (λ xs. are_good_settings xs ≡ true) (sym are) good));
    files = old_files part refl;
    keys = λ u there other waits. subst (λ xs. set_both xs (settings_of u) ≡ false) (sym are) (settings_apply-apart s (Some id) ss applies u (in_others s id u there waits other));
    all = refl;
  }
    where
      are : settings_of (pushed t (Settings ss)) ≡ ss
      are = gathered-push settings_in t.parts (record { is_done = false; part = Settings ss }) ∙ ap (λ xs. xs ++ ss) (no_settings_part t first)

pub ready-keeps : (s : Durable) (transaction : Id) (part : Part) → Keeps s (Ready transaction part)
ready-keeps s transaction part good spelled applies limits few = go part (and_parts (list_all is_of_object (transaction ∷ ids_in part)) (list_all puts_some (changes_in part)) spelled).0
    (and_parts (list_all is_of_object (transaction ∷ ids_in part)) (list_all puts_some (changes_in part)) spelled).1 (and_parts (may_get_ready s transaction) (part_applies s transaction part) applies).1 limits
  where
    t : Recorded
    t = recorded_or_new s.transactions transaction

    start : Begun s transaction t
    start = begun s transaction good (and_parts (is_of_object transaction) (list_all is_of_object (ids_in part)) (and_parts (list_all is_of_object (transaction ∷ ids_in part)) (list_all puts_some (changes_in part)) spelled).0).0
        (and_parts (may_get_ready s transaction) (part_applies s transaction part) applies).0

    add : (part : Part) → Adds s transaction t part → is_within_limits (fact_of s (Ready transaction part)) ≡ true → IsGoodState (after_event s (Ready transaction part))
    add part adds limits = pushed-good s transaction t start part adds good (limits-counted (fact_of s (Ready transaction part)) (s.events + 1) limits) few

    go : (part : Part) → list_all is_of_object (transaction ∷ ids_in part) ≡ true → list_all puts_some (changes_in part) ≡ true → part_applies s transaction part ≡ true
        → is_within_limits (fact_of s (Ready transaction part)) ≡ true → IsGoodState (after_event s (Ready transaction part))
    go (Enlistment enlistment manager information) counted some fits limits =
        add (Enlistment enlistment manager information) (adds-enlistment s transaction t start (record { enlistment = enlistment; manager = manager; information = information })
        (and_parts (is_of_object enlistment) (list_all is_of_object (manager ∷ [])) (and_parts (is_of_object transaction) (list_all is_of_object (enlistment ∷ manager ∷ [])) counted).1).0 fits) limits
    go (Changes cs) counted some fits limits =
        let parts = and_parts (not (has_changes_part t) && are_recorded_changes cs) (recorded_changes_apply s (Some transaction) cs) fits in
        let first = and_parts (not (has_changes_part t)) (are_recorded_changes cs) parts.0 in
        add (Changes cs) (adds-changes s transaction t start cs some (not-true _ first.0) first.1 parts.1 (λ u there. ((table-of s good).fit u there).core.apply)) limits
    go (Settings ss) counted some fits limits =
        let parts = and_parts (not (has_settings_part t) && are_good_settings ss) (settings_apply s (Some transaction) ss) fits in
        let first = and_parts (not (has_settings_part t)) (are_good_settings ss) parts.0 in
        add (Settings ss) (adds-settings s transaction t start ss (not-true _ first.0) first.1 parts.1) limits
