-- What the transactions in doubt of a good state changed and set can be their own again, one after another.
use Rattle.std.proofs.Common.{◌≡◌, ℕ, ◌==◌, ◌+◌, ◌<◌, ◌≤◌, ◌^◌, ◌&&◌, ◌||◌, not, Bool, true, false, List, [], ◌∷◌, ◌++◌, append_assoc, count_by, filter, length, map, nat_le, nat_lt, sum_by, is_none, is_some, Some, refl, sym, ◌∙◌, ap, subst, arith, inl, inr}
use Rattle.std.proofs.lemmas.Bool.{and_parts, cases_Bool, not-true, or_cases, or_left, or_right, not_from_false, true≢false}
use Rattle.std.proofs.lemmas.List.Sums.{sum_by-append}
use Rattle.std.specs.List.{list_all}
use Rattle.ktm_base.specs.declared.limits.TheConstants.{MOST_UNITS}
use Rattle.ktm_keyed.specs.Keyed.{is_rising}
use Rattle.ktm_world.specs.declared.recorded.Stage.{Stage}
use Rattle.ktm_world.specs.Changes.{changes_apply, changes_bytes, has_changes, is_make, node_of, nodes_made}
use Rattle.ktm_world.specs.Durable.{Durable, Recorded, are_recorded_changes, changes_of, has_changes_part, has_settings_part, is_decided, is_held, settings_of}
use Rattle.ktm_world.specs.Files.{FilesNow, OwnChanges, bytes_seen}
use Rattle.ktm_world.specs.FileUses.{file_changes_waiting, nodes_used, own_units, units_used}
use Rattle.ktm_world.specs.Keys.{Own, Store, are_good_settings, changes_pending, is_good_setting}
use Rattle.ktm_world.specs.Present.{Present}
use Rattle.ktm_world.specs.Transactions.{same_id}
use Rattle.ktm_world.specs.Tree.{Tree, IsWellFormed}
use Rattle.ktm_world.specs.Uses.{changes_waiting}
use Rattle.ktm_world.specs.World.{has_own_changes, has_own_settings, opened, own_group, present}
use Rattle.txf_laws.specs.Contents.{is_made_below, puts_some}
use Rattle.txf_laws.specs.Elements.{IsIn, each_pair}
use Rattle.txf_laws.specs.FileEffects.{CanBeCounted}
use Rattle.txf_laws.specs.SoundFiles.{IsSoundFiles, IsSoundKeys, changed_by_two, is_drawn_node, numbers_made}
use Rattle.txf_laws.proofs.offered.CommitsOfOthers.{made-number, own_changes-of}
use Rattle.txf_laws.proofs.offered.Diamonds.{IsIn-right}
use Rattle.txf_laws.proofs.offered.Elements.{each_pair-across, each_pair-left, filter-true, list_all-at, list_all-from}
use Rattle.txf_laws.proofs.offered.Lists.{IsIn-left}
use Rattle.txf_laws.proofs.offered.Sums.{sum-same}
use Rattle.txf_laws.specs.GoodState.{IsGoodState, are_kept_changes, are_kept_settings, has_one_part_each}
use Rattle.ktm_owned.proofs.offered.Restarts.{files-opened, keys-opened}
use Rattle.ktm_owned.proofs.offered.RestoredChanges.{recorded-form}
use Rattle.ktm_records.proofs.offered.Agreement.{filter-alike}
use Rattle.ktm_records.proofs.offered.NoMore.{Fits, fits-within, units-events}
use Rattle.ktm_records.proofs.offered.UnitsPassed.{own-now, own_units-same}
use Rattle.ktm_limits.specs.LimitsKept.{LimitsLaw}
use Rattle.txf_volume.specs.Held.{files_begun}
use Rattle.txf_volume.specs.Restoring.{CanBeRestored}
use Rattle.ktm_back.specs.Restoring.{AreOfGoodState, CanBeSetAgain, CanHaveItsOwn, CanHaveTheirOwn, own_changes_of, own_settings_of}
use Rattle.ktm_back.proofs.MoreOwned.{back-append, not-empty, recorded-some}

module _ (limits : LimitsLaw) (s : Durable) (good : IsGoodState s) (small : s.units ≤ MOST_UNITS) where
  -- the world that a restart of the state opens, with all that was brought back
  abbrev x : Present
  x = present (opened s [])

  sound : IsSoundFiles x
  sound = files-opened s [] good

  sound-keys : IsSoundKeys x
  sound-keys = keys-opened s [] good

  fits : Fits x
  fits = fits-within x (limits.restarts s [] good)

  room : x.recorded.units ≤ MOST_UNITS
  room = let same = units-events (own_group s) s in omega arith

  -- ---- files

  abbrev own : List OwnChanges
  own = own_changes_of s.transactions

  -- the files where only some of that is brought back
  abbrev with : List OwnChanges → FilesNow
  with some = record x.files { table = record x.files.table { own = some } }

  module _ (first rest : List OwnChanges) (all : first ++ rest ≡ own) where
    once : each_pair changed_by_two first ≡ true
    once = each_pair-left changed_by_two first rest (subst (λ l. each_pair changed_by_two l ≡ true) (sym all) sound.own_once)

    among : (o : OwnChanges) → IsIn o first → IsIn o own
    among o there = subst (IsIn o) all (IsIn-left o first rest there)

    -- no more is summed up
    fewer : (count : OwnChanges → ℕ) → sum_by count first ≤ sum_by count own
    fewer count = let whole = ap (sum_by count) all in let both = sum_by-append count first rest in omega arith

    units-first : units_used (with first) ≤ units_used x.files
    unfolding units_used
    units-first =
        let same = sum-same (own_units (with first)) (own_units x.files) first (λ o there. own_units-same x (with first) sound o (among o there) (own_changes-of first once o there)) in
        let less = fewer (own_units x.files) in
        omega arith

    nodes-first : nodes_used (with first) ≤ nodes_used x.files
    unfolding nodes_used
    nodes-first = let less = fewer (λ o. nodes_made o.changes) in omega arith

    names-first : file_changes_waiting (with first) ≤ file_changes_waiting x.files
    unfolding file_changes_waiting
    names-first = let less = fewer (λ o. count_by (λ change. not (changes_bytes change)) o.changes) in omega arith

    names-few : file_changes_waiting x.files ≤ MOST_UNITS
    unfolding changes_waiting
    names-few = let few = fits.changes in let most = room in omega arith

    counted : CanBeCounted (with first)
    counted = record {
      units = let less = units-first in let few = fits.units in let most = room in omega arith;
      nodes = let less = nodes-first in let few = fits.nodes in let most = room in omega arith;
      names = let less = names-first in let few = names-few in omega arith;
    }

    all-nodes : nodes_used (with first) + file_changes_waiting (with first) < 2 ^ 63
    all-nodes = let less = nodes-first in let few = fits.nodes in let most = room in let names = names-first in let few_names = names-few in omega arith

  module _ (before behind : List OwnChanges) (o : OwnChanges) (all : before ++ o ∷ behind ≡ own) where
    here : IsIn o own
    here = subst (IsIn o) all (IsIn-right o before (o ∷ behind) (inl refl))

    -- the others are of other transactions
    others : filter (λ (p : OwnChanges). not (same_id p.transaction o.transaction)) before ≡ before
    others = filter-alike (λ (p : OwnChanges). not (same_id p.transaction o.transaction)) (λ (p : OwnChanges). true) before
        (λ p there. each_pair-across changed_by_two before (o ∷ behind) (subst (λ l. each_pair changed_by_two l ≡ true) (sym all) sound.own_once) p o there (inl refl))
        ∙ filter-true before

    made : list_all (is_made_below s.next_node) o.changes ≡ true
    made = list_all-from (is_made_below s.next_node) o.changes (λ c there. elim (cases_Bool (is_make c)) [
      | inl make ↦ or_right (not (is_make c)) _ (and_parts (nat_le 2 (node_of c)) (nat_lt (node_of c) s.next_node)
          (list_all-at (is_drawn_node x.files) (numbers_made o.changes) (list_all-at (λ (p : OwnChanges). list_all (is_drawn_node x.files) (numbers_made p.changes)) own sound.own_drawn o here) (node_of c) (made-number o.changes c there make))).1
      | inr other ↦ or_left (not (is_make c)) _ (not_from_false _ other)
    ])

    one-more : (before ++ o ∷ []) ++ behind ≡ own
    one-more = append_assoc before (o ∷ []) behind ∙ all

    pub can-have-changes : CanBeRestored (with before) o.transaction o.changes
    can-have-changes = record {
      fresh = ap with others;
      recorded = recorded-form o.changes (bytes_seen x.files (Some o.transaction)) (own-now x sound o here).1 (list_all-at (λ (p : OwnChanges). has_changes p.changes) own sound.own_some o here);
      puts = list_all-at (λ (p : OwnChanges). list_all puts_some p.changes) own sound.own_puts o here;
      apply = list_all-at (λ (p : OwnChanges). changes_apply s.tree p.changes) own sound.own_apply o here;
      made = made;
      counted = counted (before ++ o ∷ []) behind one-more;
      all_nodes = all-nodes (before ++ o ∷ []) behind one-more;
    }

  -- ---- keys

  abbrev set : List Own
  set = own_settings_of s.transactions

  module _ (before behind : List Own) (o : Own) (all : before ++ o ∷ behind ≡ set) where
    settings-good : are_good_settings o.settings ≡ true
    settings-good = list_all-at (λ (p : Own). are_good_settings p.settings) set sound-keys.settings o (subst (IsIn o) all (IsIn-right o before (o ∷ behind) (inl refl)))

    some-rising : (not (length o.settings == 0) && is_rising o.settings) ≡ true
    some-rising = (and_parts (not (length o.settings == 0) && is_rising o.settings) (list_all is_good_setting o.settings) settings-good).0

    fewer-set : (count : Own → ℕ) → sum_by count (before ++ o ∷ []) ≤ sum_by count set
    fewer-set count =
        let whole = ap (sum_by count) (append_assoc before (o ∷ []) behind ∙ all) in
        let both = sum_by-append count (before ++ o ∷ []) behind in
        omega arith

    unset-few : changes_pending x.keys ≤ MOST_UNITS
    unfolding changes_waiting
    unset-few = let few = fits.changes in let most = room in omega arith

    pub can-be-set : CanBeSetAgain (record { store = s.keys; own = before }) o.transaction o.settings
    can-be-set = record {
      some = (and_parts (not (length o.settings == 0)) (is_rising o.settings) some-rising).0;
      rising = (and_parts (not (length o.settings == 0)) (is_rising o.settings) some-rising).1;
      few_values = let less = fewer-set (λ (p : Own). count_by (λ setting. is_some setting.value) p.settings) in let few = fits.keys in let most = room in omega arith;
      few_unsets = let less = fewer-set (λ (p : Own). count_by (λ setting. is_none setting.value) p.settings) in let few = unset-few in omega arith;
    }

  -- ---- each transaction

  not-decided : (stage : Stage) → is_held stage ≡ true → is_decided stage ≡ false
  not-decided Stage.Ready held = refl
  not-decided Stage.Held held = refl
  not-decided Stage.Decided held = absurd (true≢false (sym held))

  module _ (before behind : List Recorded) (t : Recorded) (all : before ++ t ∷ behind ≡ s.transactions) where
    there : IsIn t s.transactions
    there = subst (IsIn t) all (IsIn-right t before (t ∷ behind) (inl refl))

    abbrev changed_by : Recorded → OwnChanges
    changed_by r = record { transaction = r.id; changes = changes_of r }

    abbrev set_by : Recorded → Own
    set_by r = record { transaction = r.id; settings = settings_of r }

    changes-some : is_held t.stage ≡ true → has_changes_part t ≡ true → has_own_changes (changed_by t) ≡ true
    changes-some held has = elim (or_cases (is_decided t.stage || not (has_changes_part t)) (are_recorded_changes (changes_of t))
        (and_parts _ (is_decided t.stage || not (has_changes_part t) || are_recorded_changes (changes_of t)) (list_all-at are_kept_changes s.transactions good.changes t there)).1) [
          | inr is ↦ not-empty (changes_of t) (recorded-some (changes_of t) is)
          | inl rest ↦ elim (or_cases (is_decided t.stage) (not (has_changes_part t)) rest) [
            | inl decided ↦ absurd (true≢false (sym decided ∙ not-decided t.stage held))
            | inr none ↦ absurd (true≢false (sym has ∙ not-true _ none))
          ]
        ]

    settings-some : is_held t.stage ≡ true → has_settings_part t ≡ true → has_own_settings (set_by t) ≡ true
    settings-some held has = elim (or_cases (is_decided t.stage || not (has_settings_part t)) (are_good_settings (settings_of t))
        (and_parts _ (is_decided t.stage || not (has_settings_part t) || are_good_settings (settings_of t)) (list_all-at are_kept_settings s.transactions good.settings t there)).1) [
          | inr is ↦ (and_parts (not (length (settings_of t) == 0)) (is_rising (settings_of t)) (and_parts (not (length (settings_of t) == 0) && is_rising (settings_of t)) (list_all is_good_setting (settings_of t)) is).0).0
          | inl rest ↦ elim (or_cases (is_decided t.stage) (not (has_settings_part t)) rest) [
            | inl decided ↦ absurd (true≢false (sym decided ∙ not-decided t.stage held))
            | inr none ↦ absurd (true≢false (sym has ∙ not-true _ none))
          ]
        ]

    -- what all have is what those before it, it and those behind it have
    split : {Y : Type 0} (of : Recorded → Y) (keep : Y → Bool) → is_held t.stage ≡ true → keep (of t) ≡ true
        → filter keep (map of (filter (λ r. is_held r.stage) before)) ++ of t ∷ filter keep (map of (filter (λ r. is_held r.stage) behind)) ≡ filter keep (map of (filter (λ r. is_held r.stage) s.transactions))
    split of keep held some =
        ap (λ l. filter keep (map of (filter (λ r. is_held r.stage) before)) ++ l) (sym first)
        ∙ back-append of keep before (t ∷ behind)
        ∙ ap (λ ts. filter keep (map of (filter (λ r. is_held r.stage) ts))) all
      where
        first : filter keep (map of (filter (λ r. is_held r.stage) (t ∷ behind))) ≡ of t ∷ filter keep (map of (filter (λ r. is_held r.stage) behind))
        first = rw held (rw some refl)

    can-have : CanHaveItsOwn (with (own_changes_of before)) (record { store = s.keys; own = own_settings_of before }) t
    can-have = record {
      parts = list_all-at has_one_part_each s.transactions good.parts t there;
      changes = λ held has. can-have-changes (own_changes_of before) (own_changes_of behind) (changed_by t) (split changed_by has_own_changes held (changes-some held has));
      settings = λ held has. can-be-set (own_settings_of before) (own_settings_of behind) (set_by t) (split set_by has_own_settings held (settings-some held has));
    }

  pub can-all : CanHaveTheirOwn (files_begun s.tree s.next_node) (record { store = s.keys; own = [] }) s.transactions
  can-all = λ before behind t all. can-have before behind t all

-- ---- the parts of such a state

pub can-start : LimitsLaw → (tree : Tree) (next : ℕ) (store : Store) (ts : List Recorded) → AreOfGoodState tree next store ts → CanHaveTheirOwn (files_begun tree next) (record { store = store; own = [] }) ts
can-start limits tree next store ts are =
    subst (λ ts'. CanHaveTheirOwn (files_begun tree next) (record { store = store; own = [] }) ts') are.transactions_are
    (subst (λ store'. CanHaveTheirOwn (files_begun tree next) (record { store = store'; own = [] }) are.state.transactions) are.keys_are
    (subst (λ next'. CanHaveTheirOwn (files_begun tree next') (record { store = are.state.keys; own = [] }) are.state.transactions) are.next_node_is
    (subst (λ tree'. CanHaveTheirOwn (files_begun tree' are.state.next_node) (record { store = are.state.keys; own = [] }) are.state.transactions) are.tree_is
    (can-all limits are.state are.good are.small))))

pub well-formed : (tree : Tree) (next : ℕ) (store : Store) (ts : List Recorded) → AreOfGoodState tree next store ts → IsWellFormed tree
well-formed tree next store ts are = subst IsWellFormed are.tree_is are.good.files
