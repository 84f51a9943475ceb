-- What waits is kept by each event.
use Rattle.std.proofs.Common.{◌≡◌, ℕ, ◌+◌, ◌≤◌, ◌==◌, ◌&&◌, ◌||◌, not, Bool, true, false, List, [], ◌∷◌, ◌++◌, Option, Some, None, length, map, filter, cond, nat_le, refl, sym, ◌∙◌, ap, subst, arith, inl, inr, ◌⊎◌}
use Rattle.std.specs.List.{list_all, list_any}
use Rattle.std.proofs.lemmas.Bool.{and_from, and_parts, cases_Bool, false_from_ne_true, le-leb, leb-true, not-true, true≢false}
use Rattle.ktm_base.specs.declared.id.Id.{Id}
use Rattle.ktm_world.specs.declared.change.Change.{Change}
use Rattle.ktm_world.specs.declared.event.DonePart.{DonePart}
use Rattle.ktm_world.specs.declared.event.Part.{Part}
use Rattle.ktm_world.specs.declared.event.Part.TheVariants.{Enlistment, Changes, Settings}
use Rattle.ktm_world.specs.declared.recorded.RecordedPart.{RecordedPart}
use Rattle.ktm_world.specs.declared.recorded.Stage.{Stage}
use Rattle.ktm_world.specs.declared.recorded.Superior.{Superior}
use Rattle.txf_laws.specs.GoodState.{are_kept_changes, are_kept_settings, has_one_part_each}
use Rattle.ktm_world.specs.Changes.{changed_all, changes_apply, has_changes}
use Rattle.ktm_world.specs.Durable.{Durable, Recorded, are_recorded_changes, changes_in, changes_of, emptied_part, empty_state, ends_in_bytes, has_changes_part, has_settings_part, is_decided, is_new_in, is_of_enlistment, is_part_of, is_ready, may_get_ready, others_waiting, part_applies, parts_done, recorded_at, recorded_changes_apply, recorded_or_new, settings_apply, settings_in, settings_of, while_not_done, with_recorded}
use Rattle.ktm_keyed.specs.Keyed.{is_rising}
use Rattle.ktm_world.specs.Keys.{OwnSettings, are_good_settings}
use Rattle.ktm_world.specs.Transactions.{is_of, same_id}
use Rattle.ktm_world.specs.Tree.{Tree, IsWellFormed}
use Rattle.txf_laws.specs.Elements.{IsIn}
use Rattle.txf_laws.specs.Footprint.{footprint, AreFootprintsApart, ListsLaw}
use Rattle.txf_laws.proofs.offered.Elements.{IsIn-filter, each_pair-filter}
use Rattle.txf_laws.proofs.offered.Lists.{AreFootprintsApart-sym, apart-from-none}
use Rattle.txf_laws.proofs.offered.Tables.{IsIn-with_recorded, KnownOrNew, Table, Table-with, is_earlier, other_id, recorded_at-found, recorded_at-there, recorded_or_new-cases, same_id-equal, same_id-from}
use Rattle.txf_laws.proofs.offered.Parts.{count_among, count_among-filter, count_among-map, count_among-none, count_among-push, gathered, gathered-map, gathered-map_none, gathered-push, gathered-push_none, is_among, is_among-push}
use Rattle.txf_laws.proofs.offered.WaitingChanges.{in_others, in_others-plain, no_changes-left, no_changes_part, no_settings-left, no_settings_part, recorded_changes_apply-all, recorded_changes_apply-apart, recorded_changes_apply-new, waiting-apply, waiting-new}
use Rattle.ktm_waiting.specs.Table.{changes_at, decided_in, finished_in, held_for, with_one_part}
use Rattle.ktm_waiting.specs.Waiting.{AreBeside, AreKept, AreSpared, IsWaitingKept}
use Rattle.ktm_waiting.proofs.offered.TableSteps.{or-new-id}

-- ---- one transaction

-- the second transaction has the changes, the settings and the parts of the first one, and is decided if that is
record IsAlike (t u : Recorded) : Type 0 where
  decided : is_decided u.stage ≡ is_decided t.stage
  changes : changes_of u ≡ changes_of t
  settings : settings_of u ≡ settings_of t
  files : has_changes_part u ≡ has_changes_part t
  keys : has_settings_part u ≡ has_settings_part t

kept-alike : (tree : Tree) (t u : Recorded) → IsWaitingKept tree t → IsAlike t u → has_one_part_each u ≡ true → IsWaitingKept tree u
kept-alike tree t u kept alike parts = record {
  parts = parts;
  changes = (λ i. (not (alike.decided i) || not (has_changes (alike.changes i))) && (alike.decided i || not (alike.files i) || are_recorded_changes (alike.changes i))) ∙ kept.changes;
  settings = (λ i. (not (alike.decided i) || length (alike.settings i) == 0) && (alike.decided i || not (alike.keys i) || are_good_settings (alike.settings i))) ∙ kept.settings;
  apply = ap (changes_apply tree) alike.changes ∙ kept.apply;
  new = ap (list_all (is_new_in tree)) alike.changes ∙ kept.new;
}

-- where a transaction is not decided, its changes are kept in the form in which they are recorded
changes-waiting : (u : Recorded) → is_decided u.stage ≡ false → are_recorded_changes (changes_of u) ≡ true → are_kept_changes u ≡ true
changes-waiting u waits recorded =
    (λ i. (not (waits i) || not (has_changes (changes_of u))) && (waits i || not (has_changes_part u) || recorded i)) ∙ go (has_changes_part u)
  where
    go : (b : Bool) → (not b || true) ≡ true
    go true = refl
    go false = refl

-- where a transaction is not decided, its good settings are kept
settings-waiting : (u : Recorded) → is_decided u.stage ≡ false → are_good_settings (settings_of u) ≡ true → are_kept_settings u ≡ true
settings-waiting u waits good =
    (λ i. (not (waits i) || length (settings_of u) == 0) && (waits i || not (has_settings_part u) || good i)) ∙ go (has_settings_part u)
  where
    go : (b : Bool) → (not b || true) ≡ true
    go true = refl
    go false = refl

-- the changes that a transaction has, if it has any, have this form
pub kept-form : (t : Recorded) → are_kept_changes t ≡ true → has_changes (changes_of t) ≡ true → are_recorded_changes (changes_of t) ≡ true
kept-form t kept some = elim (cases_Bool (is_decided t.stage)) [
  | inl decided ↦ absurd (true≢false (sym some ∙ ap has_changes (no_changes-left t kept decided)))
  | inr waits ↦ elim (cases_Bool (has_changes_part t)) [
    | inl has ↦ rw (waits, has) at (and_parts (not (is_decided t.stage) || not (has_changes (changes_of t))) _ kept).1
    | inr none ↦ absurd (true≢false (sym some ∙ ap has_changes (no_changes_part t none)))
  ]
]

-- the settings that a transaction has rise by key
pub settings-rise : (t : Recorded) → are_kept_settings t ≡ true → is_rising (settings_of t) ≡ true
settings-rise t kept = elim (cases_Bool (is_decided t.stage)) [
  | inl decided ↦ ap is_rising (no_settings-left t kept decided)
  | inr waits ↦ elim (cases_Bool (has_settings_part t)) [
    | inl has ↦
        let good : are_good_settings (settings_of t) ≡ true = rw (waits, has) at (and_parts (not (is_decided t.stage) || length (settings_of t) == 0) _ kept).1 in
        (and_parts (not (length (settings_of t) == 0)) (is_rising (settings_of t)) (and_parts (not (length (settings_of t) == 0) && is_rising (settings_of t)) _ good).0).1
    | inr none ↦ ap is_rising (no_settings_part t none)
  ]
]

-- a ready transaction is not decided
pub ready-waits : (stage : Stage) → is_ready stage ≡ true → is_decided stage ≡ false
ready-waits Stage.Ready ready = refl
ready-waits Stage.Held ready = refl
ready-waits Stage.Decided ready = absurd (true≢false (sym ready))

-- ---- all of them

table-of : (tree : Tree) (ts : List Recorded) → AreKept tree ts → Table (IsWaitingKept tree) (AreBeside tree) ts
table-of tree ts kept = record { rises = kept.rise; fit = kept.each; beside = kept.beside }

pub kept-filter : (tree : Tree) (keep : Recorded → Bool) (ts : List Recorded) → AreKept tree ts → AreKept tree (filter keep ts)
kept-filter tree keep ts kept = record {
  rise = each_pair-filter is_earlier keep ts kept.rise;
  each = λ t there. kept.each t (IsIn-filter keep ts t there).0;
  beside = λ t u there there'. kept.beside t u (IsIn-filter keep ts t there).0 (IsIn-filter keep ts u there').0;
}

-- what this one changes is apart from what each other one changes
abbrev IsBeside : Tree → List Recorded → Recorded → Type 0
IsBeside tree ts t = (u : Recorded) → IsIn u ts → (u.id ≡ t.id → ⊥) → AreBeside tree t u

kept-with : (tree : Tree) (ts : List Recorded) (t : Recorded) → AreKept tree ts → IsWaitingKept tree t → IsBeside tree ts t → AreKept tree (with_recorded ts t)
kept-with tree ts t kept this beside =
    let table =
    Table-with (IsWaitingKept tree) (AreBeside tree) (IsWaitingKept tree) (AreBeside tree) ts t (table-of tree ts kept) (λ u there other is. is) (λ u v there there' other other' is. is) this (λ u there other. let side = beside u there other in (side, AreFootprintsApart-sym (footprint tree (changes_of t)) (footprint tree (changes_of u)) side)) in
    record { rise = table.rises; each = table.fit; beside = table.beside }

kept-while : (tree : Tree) (ts : List Recorded) (t : Recorded) → AreKept tree ts → IsWaitingKept tree t → IsBeside tree ts t → AreKept tree (while_not_done ts t)
kept-while tree ts t kept this beside = elim (cases_Bool (list_any (λ (p : RecordedPart). not p.is_done) t.parts)) [
  | inl stays ↦ rw stays (kept-with tree ts t kept this beside)
  | inr over ↦ rw over (kept-filter tree (λ u. not (same_id u.id t.id)) ts kept)
]

-- one of those with one that stays while a part of it is not done is that one, or one of the others
IsIn-while : (ts : List Recorded) (t u : Recorded) (tree : Tree) → AreKept tree ts → IsIn u (while_not_done ts t) → (u ≡ t) ⊎ (IsIn u ts × (u.id ≡ t.id → ⊥))
IsIn-while ts t u tree kept there = elim (cases_Bool (list_any (λ (p : RecordedPart). not p.is_done) t.parts)) [
  | inl stays ↦ IsIn-with_recorded ts t u kept.rise (rw stays at there)
  | inr over ↦ let in_ts = IsIn-filter (λ (w : Recorded). not (same_id w.id t.id)) ts u (rw over at there) in inr (in_ts.0, other_id u.id t.id (not-true _ in_ts.1))
]

-- ---- the one with an Id

pub kept-known : (tree : Tree) (ts : List Recorded) (id : Id) → AreKept tree ts → IsWaitingKept tree (recorded_or_new ts id)
kept-known tree ts id kept = go (recorded_or_new ts id) (recorded_or_new-cases ts id)
  where
    go : (t : Recorded) → KnownOrNew ts id t → IsWaitingKept tree t
    go t (inl known) = kept.each t known.0
    go t (inr new) = subst (IsWaitingKept tree) (sym new) (record { parts = refl; changes = refl; settings = refl; apply = refl; new = refl })

known-beside : (tree : Tree) (ts : List Recorded) (id : Id) → AreKept tree ts → IsBeside tree ts (recorded_or_new ts id)
known-beside tree ts id kept = go (recorded_or_new ts id) (recorded_or_new-cases ts id)
  where
    go : (t : Recorded) → KnownOrNew ts id t → IsBeside tree ts t
    go t (inl known) u there other = kept.beside t u known.0 there (λ e. other (sym e))
    go t (inr new) u there other = subst (λ (r : Recorded). AreBeside tree r u) (sym new) (apart-from-none tree (changes_of u))

-- with the same changes, what a transaction changes is apart from the same
beside-alike : (tree : Tree) (ts : List Recorded) (t u : Recorded) → IsBeside tree ts t → u.id ≡ t.id → changes_of u ≡ changes_of t → IsBeside tree ts u
beside-alike tree ts t u beside id same v there other =
    subst (λ (cs : List Change). AreFootprintsApart (footprint tree cs) (footprint tree (changes_of v))) (sym same) (beside v there (λ e. other (e ∙ sym id)))

beside-none : (tree : Tree) (ts : List Recorded) (t : Recorded) → changes_of t ≡ [] → IsBeside tree ts t
beside-none tree ts t none u there other = subst (λ (cs : List Change). AreFootprintsApart (footprint tree cs) (footprint tree (changes_of u))) (sym none) (apart-from-none tree (changes_of u))

pub found-kept : (tree : Tree) (ts : List Recorded) (id : Id) (t : Recorded) → AreKept tree ts → recorded_at ts id ≡ Some t → IsWaitingKept tree t
found-kept tree ts id t kept found = kept.each t (recorded_at-found ts id t found).0

-- ---- changes that are apart from those that wait

apart-none : (tree : Tree) (cs : List Change) (u : Recorded) → changes_of u ≡ [] → AreFootprintsApart (footprint tree cs) (footprint tree (changes_of u))
apart-none tree cs u none =
    subst (λ (ds : List Change). AreFootprintsApart (footprint tree cs) (footprint tree ds)) (sym none) (AreFootprintsApart-sym (footprint tree []) (footprint tree cs) (apart-from-none tree cs))

other-waits : (s : Durable) (who : Option Id) (u : Recorded) → IsIn u s.transactions → is_decided u.stage ≡ false → is_of u.id who ≡ false → IsIn u (others_waiting s who)
other-waits s None u there waits other = in_others-plain s u there waits
other-waits s (Some id) u there waits other = in_others s id u there waits (λ e. true≢false (sym (same_id-from u.id id e) ∙ other))

-- changes that apply are apart from those of each other transaction
spared-one : (s : Durable) (who : Option Id) (cs : List Change) → AreKept s.tree s.transactions → recorded_changes_apply s who cs ≡ true → (u : Recorded) → IsIn u s.transactions → is_of u.id who ≡ false
    → AreFootprintsApart (footprint s.tree cs) (footprint s.tree (changes_of u))
spared-one s who cs kept apply u there other = elim (cases_Bool (is_decided u.stage)) [
  | inl decided ↦ apart-none s.tree cs u (no_changes-left u (kept.each u there).changes decided)
  | inr waits ↦ recorded_changes_apply-apart s who cs apply u (other-waits s who u there waits other) (kept.each u there).apply
]

-- where they are of no transaction
pub spared-plain : (s : Durable) (cs : List Change) → AreKept s.tree s.transactions → recorded_changes_apply s None cs ≡ true → AreSpared s.tree s.transactions cs
spared-plain s cs kept apply u there = spared-one s None cs kept apply u there refl

-- where they are of a transaction of which nothing is recorded
pub spared-new : (s : Durable) (id : Id) (cs : List Change) → AreKept s.tree s.transactions → recorded_at s.transactions id ≡ None → recorded_changes_apply s (Some id) cs ≡ true → AreSpared s.tree s.transactions cs
spared-new s id cs kept none apply u there = spared-one s (Some id) cs kept apply u there (other (cases_Bool (same_id u.id id)))
  where
    other : (same_id u.id id ≡ true) ⊎ (same_id u.id id ≡ false) → same_id u.id id ≡ false
    other (inl same) = let found = recorded_at-there s.transactions kept.rise u there in let is = same_id-equal u.id id same in absurd (cc)
    other (inr differs) = differs

-- over the files that they make, what waits is kept
pub kept-commit : ListsLaw → (tree : Tree) (ts : List Recorded) (cs : List Change) → IsWellFormed tree → AreKept tree ts → changes_apply tree cs ≡ true → AreSpared tree ts cs → AreKept (changed_all tree cs) ts
kept-commit lists tree ts cs formed kept all spared = record {
  rise = kept.rise;
  each = λ t there. let this = kept.each t there in record {
    parts = this.parts;
    changes = this.changes;
    settings = this.settings;
    apply = waiting-apply lists s formed cs all t this.changes this.apply (λ waits. spared t there);
    new = waiting-new lists s formed cs all t this.changes this.new (λ waits. spared t there);
  };
  beside = λ t u there there' other.
      subst (λ f. AreFootprintsApart f (footprint (changed_all tree cs) (changes_of u))) (sym (stays t there))
      (subst (AreFootprintsApart (footprint tree (changes_of t))) (sym (stays u there')) (kept.beside t u there there' other));
}
  where
    s : Durable
    s = record (empty_state 0 0) { tree = tree; transactions = ts }

    stays : (u : Recorded) → IsIn u ts → footprint (changed_all tree cs) (changes_of u) ≡ footprint tree (changes_of u)
    stays u there = (lists tree cs (changes_of u) formed all (kept.each u there).apply (spared u there)).0.footprint

-- ---- a part more

-- changes that are recorded are some
pub recorded-some : (cs : List Change) → are_recorded_changes cs ≡ true → has_changes cs ≡ true
recorded-some cs recorded = (and_parts (has_changes cs) (ends_in_bytes cs) (and_parts (has_changes cs && ends_in_bytes cs) _ recorded).0).0

-- so many parts of a kind with one more
pushed : (test : Part → Bool) (ps : List RecordedPart) (part : Part) (n : ℕ) → count_among test ps + cond (test part) 1 0 ≤ n → nat_le (count_among test (ps ++ record { is_done = false; part = part } ∷ [])) n ≡ true
pushed test ps part n few = le-leb _ _ (omega (arith, count_among-push test ps (record { is_done = false; part = part }), few))

one-each : (t : Recorded) → has_one_part_each t ≡ true → (count_among (is_part_of DonePart.Files) t.parts ≤ 1) × (count_among (is_part_of DonePart.Keys) t.parts ≤ 1)
one-each t parts = let both = and_parts (nat_le (count_among (is_part_of DonePart.Files) t.parts) 1) (nat_le (count_among (is_part_of DonePart.Keys) t.parts) 1) parts in (leb-true _ _ both.0, leb-true _ _ both.1)

or-false : (b : Bool) → (b || false) ≡ b
or-false true = refl
or-false false = refl

-- a part of another kind leaves whether there is one of this kind
among-pushed : (test : Part → Bool) (ps : List RecordedPart) (part : Part) → test part ≡ false → is_among test (ps ++ record { is_done = false; part = part } ∷ []) ≡ is_among test ps
among-pushed test ps part other = is_among-push test ps (record { is_done = false; part = part }) ∙ ap (λ b. is_among test ps || b) other ∙ or-false (is_among test ps)

enlisted-alike : (t : Recorded) (enlistment manager : Id) (information : List ℕ) → IsAlike t (with_one_part t (Enlistment enlistment manager information))
enlisted-alike t enlistment manager information = let part : Part = Enlistment enlistment manager information in record {
  decided = refl;
  changes = gathered-push_none changes_in t.parts (record { is_done = false; part = part }) refl;
  settings = gathered-push_none settings_in t.parts (record { is_done = false; part = part }) refl;
  files = among-pushed (is_part_of DonePart.Files) t.parts part refl;
  keys = among-pushed (is_part_of DonePart.Keys) t.parts part refl;
}

-- the one part that has settings leaves the changes, and the other way round
with-settings-kept : (tree : Tree) (t : Recorded) (settings : OwnSettings) → IsWaitingKept tree t → is_decided t.stage ≡ false → has_settings_part t ≡ false → are_good_settings settings ≡ true → IsWaitingKept tree (with_one_part t (Settings settings))
with-settings-kept tree t settings kept waits absent good = record {
  parts = and_from _ _ (pushed (is_part_of DonePart.Files) t.parts part 1 (omega (arith, few.0))) (pushed (is_part_of DonePart.Keys) t.parts part 1 (omega (arith, none)));
  changes = (λ i. (not (is_decided t.stage) || not (has_changes (changes i))) && (is_decided t.stage || not (files i) || are_recorded_changes (changes i))) ∙ kept.changes;
  settings = settings-waiting (with_one_part t part) waits (ap are_good_settings same ∙ good);
  apply = ap (changes_apply tree) changes ∙ kept.apply;
  new = ap (list_all (is_new_in tree)) changes ∙ kept.new;
}
  where
    part : Part
    part = Settings settings

    few : (count_among (is_part_of DonePart.Files) t.parts ≤ 1) × (count_among (is_part_of DonePart.Keys) t.parts ≤ 1)
    few = one-each t kept.parts

    none : count_among (is_part_of DonePart.Keys) t.parts ≡ 0
    none = count_among-none (is_part_of DonePart.Keys) t.parts absent

    changes : changes_of (with_one_part t part) ≡ changes_of t
    changes = gathered-push_none changes_in t.parts (record { is_done = false; part = part }) refl

    files : has_changes_part (with_one_part t part) ≡ has_changes_part t
    files = among-pushed (is_part_of DonePart.Files) t.parts part refl

    same : settings_of (with_one_part t part) ≡ settings
    same = gathered-push settings_in t.parts (record { is_done = false; part = part }) ∙ ap (λ ss. ss ++ settings) (no_settings_part t absent)

-- the changes of a transaction that had none
pub with-changes-same : (t : Recorded) (cs : List Change) → has_changes_part t ≡ false → changes_of (with_one_part t (Changes cs)) ≡ cs
with-changes-same t cs absent = gathered-push changes_in t.parts (record { is_done = false; part = Changes cs }) ∙ ap (λ ds. ds ++ cs) (no_changes_part t absent)

with-changes-kept : (tree : Tree) (t : Recorded) (cs : List Change) → IsWaitingKept tree t → is_decided t.stage ≡ false → has_changes_part t ≡ false → are_recorded_changes cs ≡ true → changes_apply tree cs ≡ true → list_all (is_new_in tree) cs ≡ true
    → IsWaitingKept tree (with_one_part t (Changes cs))
with-changes-kept tree t cs kept waits absent recorded all new = record {
  parts = and_from _ _ (pushed (is_part_of DonePart.Files) t.parts part 1 (omega (arith, none))) (pushed (is_part_of DonePart.Keys) t.parts part 1 (omega (arith, few.1)));
  changes = changes-waiting (with_one_part t part) waits (ap are_recorded_changes same ∙ recorded);
  settings = (λ i. (not (is_decided t.stage) || length (settings i) == 0) && (is_decided t.stage || not (keys i) || are_good_settings (settings i))) ∙ kept.settings;
  apply = ap (changes_apply tree) same ∙ all;
  new = ap (list_all (is_new_in tree)) same ∙ new;
}
  where
    part : Part
    part = Changes cs

    few : (count_among (is_part_of DonePart.Files) t.parts ≤ 1) × (count_among (is_part_of DonePart.Keys) t.parts ≤ 1)
    few = one-each t kept.parts

    none : count_among (is_part_of DonePart.Files) t.parts ≡ 0
    none = count_among-none (is_part_of DonePart.Files) t.parts absent

    settings : settings_of (with_one_part t part) ≡ settings_of t
    settings = gathered-push_none settings_in t.parts (record { is_done = false; part = part }) refl

    keys : has_settings_part (with_one_part t part) ≡ has_settings_part t
    keys = among-pushed (is_part_of DonePart.Keys) t.parts part refl

    same : changes_of (with_one_part t part) ≡ cs
    same = with-changes-same t cs absent

-- whether a ready transaction may have the part
pub may-ready : (s : Durable) (id : Id) → may_get_ready s id ≡ true → is_decided (recorded_or_new s.transactions id).stage ≡ false
may-ready s id may = ready-waits (recorded_or_new s.transactions id).stage (and_parts (id.boot == s.boots) (is_ready (recorded_or_new s.transactions id).stage) may).1

module _ (s : Durable) (id : Id) (kept : AreKept s.tree s.transactions) (may : may_get_ready s id ≡ true) where
  abbrev known : Recorded
  known = recorded_or_new s.transactions id

  part-kept-one : (part : Part) → part_applies s id part ≡ true → IsWaitingKept s.tree (with_one_part known part) × IsBeside s.tree s.transactions (with_one_part known part)
  part-kept-one (Enlistment enlistment manager information) applies =
      let part : Part = Enlistment enlistment manager information in
      let fit = kept-known s.tree s.transactions id kept in
      let few = one-each known fit.parts in
      let alike = enlisted-alike known enlistment manager information in (
        kept-alike s.tree known (with_one_part known part) fit alike
            (and_from _ _ (pushed (is_part_of DonePart.Files) known.parts part 1 (omega (arith, few.0))) (pushed (is_part_of DonePart.Keys) known.parts part 1 (omega (arith, few.1)))),
        beside-alike s.tree s.transactions known (with_one_part known part) (known-beside s.tree s.transactions id kept) refl alike.changes,
      )
  part-kept-one (Settings settings) applies =
      let part : Part = Settings settings in
      let tests = and_parts (not (has_settings_part known) && are_good_settings settings) (settings_apply s (Some id) settings) applies in
      let both = and_parts (not (has_settings_part known)) (are_good_settings settings) tests.0 in (
        with-settings-kept s.tree known settings (kept-known s.tree s.transactions id kept) (may-ready s id may) (not-true _ both.0) both.1,
        beside-alike s.tree s.transactions known (with_one_part known part) (known-beside s.tree s.transactions id kept) refl
            (gathered-push_none changes_in known.parts (record { is_done = false; part = part }) refl),
      )
  part-kept-one (Changes cs) applies =
      let tests = and_parts (not (has_changes_part known) && are_recorded_changes cs) (recorded_changes_apply s (Some id) cs) applies in
      let both = and_parts (not (has_changes_part known)) (are_recorded_changes cs) tests.0 in (
        with-changes-kept s.tree known cs (kept-known s.tree s.transactions id kept) (may-ready s id may) (not-true _ both.0) both.1 (recorded_changes_apply-all s (Some id) cs tests.1) (recorded_changes_apply-new s (Some id) cs tests.1),
        λ u there other.
            subst (λ (ds : List Change). AreFootprintsApart (footprint s.tree ds) (footprint s.tree (changes_of u))) (sym (with-changes-same known cs (not-true _ both.0)))
            (spared-one s (Some id) cs kept tests.1 u there (false_from_ne_true _ (λ same. other (same_id-equal u.id id same ∙ sym (or-new-id s.transactions id))))),
      )

  pub part-kept : (part : Part) → part_applies s id part ≡ true → AreKept s.tree (with_recorded s.transactions (with_one_part known part))
  part-kept part applies = let both = part-kept-one part applies in kept-with s.tree s.transactions (with_one_part known part) kept both.0 both.1

pub hold-kept : (tree : Tree) (ts : List Recorded) (id : Id) → AreKept tree ts → is_decided (recorded_or_new ts id).stage ≡ false → (superior : Superior) → AreKept tree (with_recorded ts (held_for (recorded_or_new ts id) superior))
hold-kept tree ts id kept waits superior =
    let t = recorded_or_new ts id in
    let known = kept-known tree ts id kept in
    kept-with tree ts (held_for t superior) kept
    (kept-alike tree t (held_for t superior) known (record { decided = sym waits; changes = refl; settings = refl; files = refl; keys = refl }) known.parts)
    (beside-alike tree ts t (held_for t superior) (known-beside tree ts id kept) refl refl)

-- ---- decided

emptied-changes : (p : RecordedPart) → changes_in (emptied_part p).part ≡ []
emptied-changes p = go p.part
  where
    go : (part : Part) → changes_in (emptied_part (record { is_done = p.is_done; part = part })).part ≡ []
    go (Enlistment enlistment manager information) = refl
    go (Changes changes) = refl
    go (Settings settings) = refl

emptied-settings : (p : RecordedPart) → settings_in (emptied_part p).part ≡ []
emptied-settings p = go p.part
  where
    go : (part : Part) → settings_in (emptied_part (record { is_done = p.is_done; part = part })).part ≡ []
    go (Enlistment enlistment manager information) = refl
    go (Changes changes) = refl
    go (Settings settings) = refl

emptied-files : (p : RecordedPart) → is_part_of DonePart.Files (emptied_part p).part ≡ is_part_of DonePart.Files p.part
emptied-files p = go p.part
  where
    go : (part : Part) → is_part_of DonePart.Files (emptied_part (record { is_done = p.is_done; part = part })).part ≡ is_part_of DonePart.Files part
    go (Enlistment enlistment manager information) = refl
    go (Changes changes) = refl
    go (Settings settings) = refl

emptied-keys : (p : RecordedPart) → is_part_of DonePart.Keys (emptied_part p).part ≡ is_part_of DonePart.Keys p.part
emptied-keys p = go p.part
  where
    go : (part : Part) → is_part_of DonePart.Keys (emptied_part (record { is_done = p.is_done; part = part })).part ≡ is_part_of DonePart.Keys part
    go (Enlistment enlistment manager information) = refl
    go (Changes changes) = refl
    go (Settings settings) = refl

-- a transaction that is decided
abbrev pub decided : Recorded → Recorded
decided t = record t { stage = Stage.Decided; parts = map emptied_part t.parts }

pub decided-changes : (t : Recorded) → changes_of (decided t) ≡ []
decided-changes t = gathered-map_none changes_in emptied_part emptied-changes t.parts

decided-kept-one : (tree : Tree) (t : Recorded) → has_one_part_each t ≡ true → IsWaitingKept tree (decided t)
decided-kept-one tree t parts = record {
  parts = (λ i. nat_le (count_among-map (is_part_of DonePart.Files) emptied_part emptied-files t.parts i) 1 && nat_le (count_among-map (is_part_of DonePart.Keys) emptied_part emptied-keys t.parts i) 1) ∙ parts;
  changes = λ i. not (has_changes (decided-changes t i)) && true;
  settings = λ i. (length (gathered-map_none settings_in emptied_part emptied-settings t.parts i) == 0) && true;
  apply = ap (changes_apply tree) (decided-changes t);
  new = ap (list_all (is_new_in tree)) (decided-changes t);
}

pub decide-kept : (tree : Tree) (ts : List Recorded) (o : Option Recorded) → AreKept tree ts → ((t : Recorded) → o ≡ Some t → has_one_part_each t ≡ true) → AreKept tree (decided_in ts o)
decide-kept tree ts None kept parts = kept
decide-kept tree ts (Some t) kept parts = kept-while tree ts (decided t) kept (decided-kept-one tree t (parts t refl)) (beside-none tree ts (decided t) (decided-changes t))

-- what it changes is apart from what is left
pub decide-spared : (tree : Tree) (ts : List Recorded) (id : Id) → AreKept tree ts → AreSpared tree (decided_in ts (recorded_at ts id)) (changes_at (recorded_at ts id))
decide-spared tree ts id kept = go (recorded_at ts id) (λ t found. (recorded_at-found ts id t found).0)
  where
    go : (o : Option Recorded) → ((t : Recorded) → o ≡ Some t → IsIn t ts) → AreSpared tree (decided_in ts o) (changes_at o)
    go None found u there = apart-from-none tree (changes_of u)
    go (Some t) found u there = elim (IsIn-while ts (decided t) u tree kept there) [
      | inl e ↦ apart-none tree (changes_of t) u (ap changes_of e ∙ decided-changes t)
      | inr (here, other) ↦ kept.beside t u (found t refl) here (λ e. other (sym e))
    ]

-- ---- done

parts-left : {X : Type 0} (g : Part → List X) (done : DonePart) → is_of_enlistment done ≡ true → ((part : Part) → is_part_of done part ≡ true → g part ≡ []) → (ps : List RecordedPart)
    → gathered g (filter (λ (p : RecordedPart). not (is_part_of done p.part)) ps) ≡ gathered g ps
parts-left g done is none [] = refl
parts-left g done is none (p ∷ ps) = elim (cases_Bool (is_part_of done p.part)) [
  | inl this ↦ rw this (parts-left g done is none ps ∙ ap (λ xs. xs ++ gathered g ps) (sym (none p.part this)))
  | inr other ↦ rw other (ap (λ xs. g p.part ++ xs) (parts-left g done is none ps))
]

kinds-left : (test : Part → Bool) (done : DonePart) (ps : List RecordedPart) → count_among test (parts_done done ps) ≤ count_among test ps
kinds-left test done ps = elim (cases_Bool (is_of_enlistment done)) [
  | inl is ↦ rw is (count_among-filter test (λ (p : RecordedPart). not (is_part_of done p.part)) ps)
  | inr other ↦ rw other (let same = count_among-map test (λ (p : RecordedPart). record p { is_done = p.is_done || is_part_of done p.part }) (λ p. refl) ps in omega (arith, same))
]

no-changes-done : (id : Id) (part : Part) → is_part_of (DonePart.Enlistment id) part ≡ true → changes_in part ≡ []
no-changes-done id (Enlistment enlistment manager information) this = refl
no-changes-done id (Changes changes) this = absurd (true≢false (sym this))
no-changes-done id (Settings settings) this = refl

no-settings-done : (id : Id) (part : Part) → is_part_of (DonePart.Enlistment id) part ≡ true → settings_in part ≡ []
no-settings-done id (Enlistment enlistment manager information) this = refl
no-settings-done id (Changes changes) this = refl
no-settings-done id (Settings settings) this = absurd (true≢false (sym this))

pub done-changes : (done : DonePart) (ps : List RecordedPart) → gathered changes_in (parts_done done ps) ≡ gathered changes_in ps
done-changes (DonePart.Enlistment id) ps = parts-left changes_in (DonePart.Enlistment id) refl (no-changes-done id) ps
done-changes DonePart.Files ps = gathered-map changes_in (λ (p : RecordedPart). record p { is_done = p.is_done || is_part_of DonePart.Files p.part }) (λ p. refl) ps
done-changes DonePart.Keys ps = gathered-map changes_in (λ (p : RecordedPart). record p { is_done = p.is_done || is_part_of DonePart.Keys p.part }) (λ p. refl) ps

pub done-settings : (done : DonePart) (ps : List RecordedPart) → gathered settings_in (parts_done done ps) ≡ gathered settings_in ps
done-settings (DonePart.Enlistment id) ps = parts-left settings_in (DonePart.Enlistment id) refl (no-settings-done id) ps
done-settings DonePart.Files ps = gathered-map settings_in (λ (p : RecordedPart). record p { is_done = p.is_done || is_part_of DonePart.Files p.part }) (λ p. refl) ps
done-settings DonePart.Keys ps = gathered-map settings_in (λ (p : RecordedPart). record p { is_done = p.is_done || is_part_of DonePart.Keys p.part }) (λ p. refl) ps

-- whether there is a part of a kind that no enlistment is of
among-left : (test : Part → Bool) (done : DonePart) → ((part : Part) → is_of_enlistment done ≡ true → is_part_of done part ≡ true → test part ≡ false) → (ps : List RecordedPart) → is_among test (parts_done done ps) ≡ is_among test ps
among-left test done other ps = elim (cases_Bool (is_of_enlistment done)) [
  | inl is ↦ rw is (filtered is ps)
  | inr none ↦ rw none (marked ps)
]
  where
    filtered : is_of_enlistment done ≡ true → (qs : List RecordedPart) → is_among test (filter (λ (p : RecordedPart). not (is_part_of done p.part)) qs) ≡ is_among test qs
    filtered is [] = refl
    filtered is (q ∷ qs) = elim (cases_Bool (is_part_of done q.part)) [
      | inl this ↦ rw (this, other q.part is this) (filtered is qs)
      | inr another ↦ rw another (ap (λ b. test q.part || b) (filtered is qs))
    ]

    marked : (qs : List RecordedPart) → is_among test (map (λ (p : RecordedPart). record p { is_done = p.is_done || is_part_of done p.part }) qs) ≡ is_among test qs
    marked [] = refl
    marked (q ∷ qs) = ap (λ b. test q.part || b) (marked qs)

no-files : (done : DonePart) (part : Part) → is_of_enlistment done ≡ true → is_part_of done part ≡ true → is_part_of DonePart.Files part ≡ false
no-files (DonePart.Enlistment id) (Enlistment enlistment manager information) is this = refl
no-files (DonePart.Enlistment id) (Changes changes) is this = absurd (true≢false (sym this))
no-files (DonePart.Enlistment id) (Settings settings) is this = refl
no-files DonePart.Files part is this = absurd (true≢false (sym is))
no-files DonePart.Keys part is this = absurd (true≢false (sym is))

no-keys : (done : DonePart) (part : Part) → is_of_enlistment done ≡ true → is_part_of done part ≡ true → is_part_of DonePart.Keys part ≡ false
no-keys (DonePart.Enlistment id) (Enlistment enlistment manager information) is this = refl
no-keys (DonePart.Enlistment id) (Changes changes) is this = refl
no-keys (DonePart.Enlistment id) (Settings settings) is this = absurd (true≢false (sym this))
no-keys DonePart.Files part is this = absurd (true≢false (sym is))
no-keys DonePart.Keys part is this = absurd (true≢false (sym is))

pub finish-kept : (tree : Tree) (ts : List Recorded) (done : DonePart) (id : Id) → AreKept tree ts → AreKept tree (finished_in ts done (recorded_at ts id))
finish-kept tree ts done id kept = go (recorded_at ts id) (λ t found. (recorded_at-found ts id t found).0)
  where
    go : (o : Option Recorded) → ((t : Recorded) → o ≡ Some t → IsIn t ts) → AreKept tree (finished_in ts done o)
    go None found = kept
    go (Some t) found =
        let this = kept.each t (found t refl) in
        let few = one-each t this.parts in
        let u : Recorded = record t { parts = parts_done done t.parts } in
        let alike : IsAlike t u = record {
          decided = refl;
          changes = done-changes done t.parts;
          settings = done-settings done t.parts;
          files = among-left (is_part_of DonePart.Files) done (no-files done) t.parts;
          keys = among-left (is_part_of DonePart.Keys) done (no-keys done) t.parts;
        } in
        kept-while tree ts u kept
        (kept-alike tree t u this alike
        (and_from _ _ (le-leb (count_among (is_part_of DonePart.Files) (parts_done done t.parts)) 1 (omega (arith, kinds-left (is_part_of DonePart.Files) done t.parts, few.0)))
        (le-leb (count_among (is_part_of DonePart.Keys) (parts_done done t.parts)) 1 (omega (arith, kinds-left (is_part_of DonePart.Keys) done t.parts, few.1)))))
        (beside-alike tree ts t u (λ v there other. kept.beside t v (found t refl) there (λ e. other (sym e))) refl alike.changes)

-- ---- what a transaction changes that is there

pub changes-apply-at : (tree : Tree) (ts : List Recorded) (id : Id) → AreKept tree ts → changes_apply tree (changes_at (recorded_at ts id)) ≡ true
changes-apply-at tree ts id kept = go (recorded_at ts id) (λ t found. found-kept tree ts id t kept found)
  where
    go : (o : Option Recorded) → ((t : Recorded) → o ≡ Some t → IsWaitingKept tree t) → changes_apply tree (changes_at o) ≡ true
    go None found = refl
    go (Some t) found = (found t refl).apply

pub changes-new-at : (tree : Tree) (ts : List Recorded) (id : Id) → AreKept tree ts → list_all (is_new_in tree) (changes_at (recorded_at ts id)) ≡ true
changes-new-at tree ts id kept = go (recorded_at ts id) (λ t found. found-kept tree ts id t kept found)
  where
    go : (o : Option Recorded) → ((t : Recorded) → o ≡ Some t → IsWaitingKept tree t) → list_all (is_new_in tree) (changes_at o) ≡ true
    go None found = refl
    go (Some t) found = (found t refl).new
