-- What a restart of a good state makes of the keys and the files is sound.
use Rattle.std.proofs.Common.{◌≡◌, ℕ, ◌≤◌, ◌^◌, ◌==◌, ◌&&◌, ◌||◌, not, Bool, true, false, is_none, List, [], ◌∷◌, length, map, filter, nat_lt, nat_le, Some, None, refl, sym, ◌∙◌, ap, subst, arith, inl, inr}
use Rattle.std.proofs.lemmas.Bool.{cases_Bool, ne_eqb, leb-true, le-leb, and_parts, and_from, or_cases, or_left, or_right, not-true, not_from_false, true≢false, false_from_ne_true}
use Rattle.std.proofs.lemmas.List.Elements.{All-nil}
use Rattle.std.specs.List.{list_all}
use Rattle.ktm_world.specs.declared.change.Change.{Change}
use Rattle.ktm_world.specs.declared.change.Change.TheVariants.{Make, Put, Cut, Move, Drop}
use Rattle.ktm_world.specs.declared.recorded.Node.{Node}
use Rattle.ktm_world.specs.declared.recorded.Stage.{Stage}
use Rattle.ktm_world.specs.declared.object.Transaction.{Transaction}
use Rattle.ktm_world.specs.Changes.{applies, changes_apply, changes_bytes, is_make, node_of, has_changes}
use Rattle.ktm_world.specs.Committed.{changes_to_commit}
use Rattle.ktm_world.specs.Conflicts.{holds_now}
use Rattle.ktm_world.specs.Durable.{Durable, Recorded, changes_of, settings_of, has_changes_part, has_settings_part, is_decided, is_held, are_recorded_changes, stand, is_new_in}
use Rattle.ktm_world.specs.Files.{OwnChanges, own_changes, first_bytes, bytes_with, bytes_seen, tree_of}
use Rattle.ktm_world.specs.Holds.{holds_by, is_in}
use Rattle.ktm_world.specs.Keys.{Own, OwnSettings, are_good_settings, own_settings}
use Rattle.ktm_world.specs.Lawful.{are_apart, others_undecided, undecided}
use Rattle.ktm_world.specs.Logs.{Group}
use Rattle.ktm_world.specs.Present.{Present}
use Rattle.ktm_world.specs.Transactions.{is_of, is_undecided, same_id}
use Rattle.ktm_world.specs.Tree.{Tree, node_at}
use Rattle.ktm_world.specs.World.{present, opened, transaction_back, back, in_doubt, is_brought_back, has_own_changes, has_own_settings}
use Rattle.txf_laws.specs.Elements.{IsIn, each_pair}
use Rattle.txf_laws.specs.Footprint.{footprint, AreFootprintsApart}
use Rattle.txf_laws.specs.Contents.{is_made_below, puts_some}
use Rattle.txf_laws.specs.GoodState.{is_of_object, IsGoodState}
use Rattle.txf_laws.specs.SoundFiles.{IsSoundKeys, IsSoundFiles, is_undecided_in, set_by_two, set_no_key, changed_by_two, make_apart, numbers_made, is_drawn_node, is_change_of_opened, files_apart, is_gone}
use Rattle.txf_laws.proofs.offered.ChangeTests.{Applies-from}
use Rattle.txf_laws.proofs.offered.Diamonds.{IsIn-map, none-from}
use Rattle.txf_laws.proofs.offered.Elements.{IsIn-filter, IsIn-kept, list_all-at, list_all-from, each_pair-either, each_pair-from, each_pair-filter}
use Rattle.txf_laws.proofs.offered.GoodTransactions.{Core, TableOf, table-of}
use Rattle.txf_laws.proofs.offered.Lists.{IsIn-unmap}
use Rattle.txf_laws.proofs.offered.Holds.{are_apart-from}
use Rattle.ktm_owned.proofs.offered.OwnSettings.{own_settings-found, own_settings-of}
use Rattle.txf_laws.proofs.offered.CommitsOfOthers.{All-in, All-by, made-by, made-node, own_changes-of}
use Rattle.ktm_owned.proofs.offered.EndedTransactions.{is_created_before, transaction_at-there}
use Rattle.txf_laws.proofs.offered.Reservations.{own_changes-found}
use Rattle.ktm_owned.proofs.offered.RestoredChanges.{applied-in, restored}
use Rattle.ktm_courses.proofs.offered.SoundRestarts.{booted}
use Rattle.txf_laws.proofs.offered.Tables.{is_earlier, before_other, same_id-equal, same_id-from}
use Rattle.ktm_courses.proofs.offered.Views.{each_pair-map}
use Rattle.txf_laws.proofs.offered.WaitingChanges.{no_changes_part, no_settings_part}

module _ (base : Durable) (log : List Group) (good : IsGoodState (stand base log)) where
  abbrev s : Durable
  s = stand base log

  abbrev x : Present
  x = present (opened base log)

  table : TableOf s s.transactions
  table = table-of s good

  core : (t : Recorded) → IsIn t s.transactions → Core s t
  core t there = (table.fit t there).core

  held-waits : (t : Recorded) → is_held t.stage ≡ true → is_decided t.stage ≡ false
  held-waits t held = go t.stage held
    where
      go : (stage : Stage) → is_held stage ≡ true → is_decided stage ≡ false
      go Stage.Ready held = refl
      go Stage.Held held = refl
      go Stage.Decided held = absurd (true≢false (sym held))

  -- ---- transactions that wait for their superiors

  items-rise : each_pair is_created_before (map transaction_back (back s)) ≡ true
  items-rise = each_pair-map is_created_before is_earlier transaction_back (λ t u. refl) (back s) ∙ each_pair-filter is_earlier is_brought_back s.transactions good.transactions_rise

  undecided-back : (t : Recorded) → IsIn t s.transactions → is_held t.stage ≡ true → is_undecided_in x.transactions.items t.id ≡ true
  undecided-back t there held =
      let brought = IsIn-kept is_brought_back s.transactions t there (or_left (is_held t.stage) _ held) in
      rw (transaction_at-there (map transaction_back (back s)) items-rise (transaction_back t) (IsIn-map transaction_back t (back s) brought)) (rw held refl)

  -- a transaction that is undecided waited
  waited : (u : Transaction) → IsIn u (undecided x) → (t : Recorded) × IsIn t s.transactions × (is_held t.stage ≡ true) × (t.id ≡ u.id)
  waited u there =
      let kept = IsIn-filter (λ (v : Transaction). is_undecided v && not (is_of v.id None)) x.transactions.items u there in
      let from = IsIn-unmap transaction_back u (back s) kept.0 in
      let brought = IsIn-filter is_brought_back s.transactions from.0 from.2 in
      (from.0, brought.0, is-held from.0 (subst (λ (v : Transaction). is_undecided v ≡ true) (sym from.1) (and_parts (is_undecided u) (not (is_of u.id None)) kept.1).0), ap (λ (v : Transaction). v.id) from.1)
    where
      is-held : (t : Recorded) → is_undecided (transaction_back t) ≡ true → is_held t.stage ≡ true
      is-held t is = elim (cases_Bool (is_held t.stage)) [ inl waits ↦ waits | inr decided ↦ absurd (true≢false (sym (rw decided at is))) ]

  -- an entry of what they own
  record Kept {Y : Type 0} (f : Recorded → Y) (keep : Y → Bool) (y : Y) : Type 0 where
    t : Recorded
    there : IsIn t s.transactions
    held : is_held t.stage ≡ true
    is : f t ≡ y
    some : keep y ≡ true

  kept : {Y : Type 0} (f : Recorded → Y) (keep : Y → Bool) (y : Y) → IsIn y (filter keep (map f (in_doubt s))) → Kept f keep y
  kept f keep y there =
      let some = IsIn-filter keep (map f (in_doubt s)) y there in
      let from = IsIn-unmap f y (in_doubt s) some.0 in
      let held = IsIn-filter (λ (t : Recorded). is_held t.stage) s.transactions from.0 from.2 in
      record { t = from.0; there = held.0; held = held.1; is = from.1; some = some.1 }

  -- what is so of each entry
  each : {Y : Type 0} (f : Recorded → Y) (keep : Y → Bool) (test : Y → Bool) → ((t : Recorded) → IsIn t s.transactions → is_held t.stage ≡ true → keep (f t) ≡ true → test (f t) ≡ true)
      → list_all test (filter keep (map f (in_doubt s))) ≡ true
  each f keep test all = list_all-from test (filter keep (map f (in_doubt s))) (λ y there. let k = kept f keep y there in
      subst (λ z. test z ≡ true) k.is (all k.t k.there k.held (subst (λ z. keep z ≡ true) (sym k.is) k.some)))

  -- what is so of each two
  pairs : {Y : Type 0} (f : Recorded → Y) (keep : Y → Bool) (test : Y → Y → Bool)
      → ((t u : Recorded) → IsIn t s.transactions → IsIn u s.transactions → is_held t.stage ≡ true → is_held u.stage ≡ true → (t.id ≡ u.id → ⊥) → test (f t) (f u) ≡ true)
      → each_pair test (filter keep (map f (in_doubt s))) ≡ true
  pairs f keep test all = each_pair-filter test keep (map f (in_doubt s)) (each_pair-map test (λ t u. test (f t) (f u)) f (λ t u. refl) (in_doubt s)
      ∙ each_pair-from is_earlier (λ t u. test (f t) (f u)) (in_doubt s) (each_pair-filter is_earlier (λ (t : Recorded). is_held t.stage) s.transactions good.transactions_rise) (λ t u there there' earlier.
      let a = IsIn-filter (λ (t : Recorded). is_held t.stage) s.transactions t there in
      let b = IsIn-filter (λ (t : Recorded). is_held t.stage) s.transactions u there' in
      all t u a.0 b.0 a.1 b.1 (before_other t.id u.id earlier)))

  -- ---- keys

  abbrev set_by : Recorded → Own
  set_by t = record { transaction = t.id; settings = settings_of t }

  settings-good : (t : Recorded) → IsIn t s.transactions → is_held t.stage ≡ true → has_own_settings (set_by t) ≡ true → are_good_settings (settings_of t) ≡ true
  settings-good t there held some = elim (or_cases (is_decided t.stage || not (has_settings_part t)) (are_good_settings (settings_of t)) (and_parts _ (is_decided t.stage || not (has_settings_part t) || are_good_settings (settings_of t)) (core t there).settings).1) [
    | inr is ↦ is
    | inl rest ↦ elim (or_cases (is_decided t.stage) (not (has_settings_part t)) rest) [
      | inl decided ↦ absurd (true≢false (sym decided ∙ held-waits t held))
      | inr none ↦ absurd (true≢false (sym (subst (λ (ss : OwnSettings). not (length ss == 0) ≡ true) (no_settings_part t (not-true _ none)) some)))
    ]
  ]

  abbrev set : List Own
  set = filter has_own_settings (map set_by (in_doubt s))

  set-once : each_pair set_by_two set ≡ true
  set-once = pairs set_by has_own_settings set_by_two (λ t u there there' held held' other. not_from_false _ (false_from_ne_true _ (λ same. other (same_id-equal t.id u.id same))))

  -- what a transaction that waited set it has set
  pub set-back : (t : Recorded) → IsIn t s.transactions → is_held t.stage ≡ true → own_settings set t.id ≡ settings_of t
  set-back t there held = elim (cases_Bool (has_own_settings (set_by t))) [
    | inl some ↦ own_settings-of set set-once (set_by t) (IsIn-kept has_own_settings (map set_by (in_doubt s)) (set_by t) (IsIn-map set_by t (in_doubt s) (IsIn-kept (λ (r : Recorded). is_held r.stage) s.transactions t there held)) some)
    | inr none ↦ elim (own_settings-found set t.id) [
      | inl nothing ↦ nothing ∙ sym (none-set (settings_of t) none)
      | inr (o, in_set, is, settings) ↦
          let k = kept set_by has_own_settings o in_set in
          elim (each_pair-either is_earlier s.transactions good.transactions_rise k.t t k.there there) [
            | inl same ↦ sym settings ∙ ap (λ (p : Own). p.settings) (sym k.is) ∙ ap settings_of same
            | inr (inl before) ↦ absurd (before_other (k.t).id t.id before (ap (λ (p : Own). p.transaction) k.is ∙ is))
            | inr (inr after) ↦ absurd (before_other t.id (k.t).id after (sym (ap (λ (p : Own). p.transaction) k.is ∙ is)))
          ]
    ]
  ]
    where
      none-set : (ss : OwnSettings) → not (length ss == 0) ≡ false → ss ≡ []
      none-set [] none = refl
      none-set (a ∷ ss) none = absurd (true≢false (sym (not_from_false _ (ne_eqb (length (a ∷ ss)) 0 (λ e. omega (arith, e)))) ∙ none))

  pub keys-opened : IsSoundKeys x
  keys-opened = record {
    undecided = each set_by has_own_settings (λ o. is_undecided_in x.transactions.items o.transaction) (λ t there held some. undecided-back t there held);
    once = set-once;
    settings = each set_by has_own_settings (λ o. are_good_settings o.settings) settings-good;
    apart = pairs set_by has_own_settings set_no_key (λ t u there there' held held' other. not_from_false _ ((table.beside t u there there' other).keys (held-waits t held) (held-waits u held')));
    rises = good.keys_rise;
    good = good.keys_good;
  }

  -- ---- files

  abbrev changed_by : Recorded → OwnChanges
  changed_by t = record { transaction = t.id; changes = changes_of t }

  abbrev own : List OwnChanges
  own = filter has_own_changes (map changed_by (in_doubt s))

  own-once : each_pair changed_by_two own ≡ true
  own-once = pairs changed_by has_own_changes changed_by_two (λ t u there there' held held' other. not_from_false _ (false_from_ne_true _ (λ same. other (same_id-equal t.id u.id same))))

  entry : (t : Recorded) → IsIn t s.transactions → is_held t.stage ≡ true → has_own_changes (changed_by t) ≡ true → IsIn (changed_by t) own
  entry t there held some = IsIn-kept has_own_changes (map changed_by (in_doubt s)) (changed_by t) (IsIn-map changed_by t (in_doubt s) (IsIn-kept (λ (r : Recorded). is_held r.stage) s.transactions t there held)) some

  none-left : (cs : List Change) → not (length cs == 0) ≡ false → cs ≡ []
  none-left [] none = refl
  none-left (c ∷ cs) none = absurd (true≢false (sym (not_from_false _ (ne_eqb (length (c ∷ cs)) 0 (λ e. omega (arith, e)))) ∙ none))

  -- what a transaction that waited changed it owns
  pub own-back : (t : Recorded) → IsIn t s.transactions → is_held t.stage ≡ true → own_changes own t.id ≡ changes_of t
  own-back t there held = elim (cases_Bool (has_own_changes (changed_by t))) [
    | inl some ↦ own_changes-of own own-once (changed_by t) (entry t there held some)
    | inr none ↦ elim (own_changes-found own t.id) [
      | inl nothing ↦ nothing ∙ sym (none-left (changes_of t) none)
      | inr (o, in_own, is, changes) ↦
          let k = kept changed_by has_own_changes o in_own in
          elim (each_pair-either is_earlier s.transactions good.transactions_rise k.t t k.there there) [
            | inl same ↦ sym changes ∙ ap (λ (p : OwnChanges). p.changes) (sym k.is) ∙ ap changes_of same
            | inr (inl before) ↦ absurd (before_other (k.t).id t.id before (ap (λ (p : OwnChanges). p.transaction) k.is ∙ is))
            | inr (inr after) ↦ absurd (before_other t.id (k.t).id after (sym (ap (λ (p : OwnChanges). p.transaction) k.is ∙ is)))
          ]
    ]
  ]

  recorded-changes : (t : Recorded) → IsIn t s.transactions → is_held t.stage ≡ true → has_own_changes (changed_by t) ≡ true → are_recorded_changes (changes_of t) ≡ true
  recorded-changes t there held some = elim (or_cases (is_decided t.stage || not (has_changes_part t)) (are_recorded_changes (changes_of t)) (and_parts _ (is_decided t.stage || not (has_changes_part t) || are_recorded_changes (changes_of t)) (core t there).changes).1) [
    | inr is ↦ is
    | inl rest ↦ elim (or_cases (is_decided t.stage) (not (has_changes_part t)) rest) [
      | inl decided ↦ absurd (true≢false (sym decided ∙ held-waits t held))
      | inr none ↦ absurd (true≢false (sym (subst (λ (cs : List Change). not (length cs == 0) ≡ true) (no_changes_part t (not-true _ none)) some)))
    ]
  ]

  -- a number that waits was drawn
  drawn : (t : Recorded) → IsIn t s.transactions → (n : ℕ) → IsIn n (numbers_made (changes_of t)) → is_drawn_node x.files n ≡ true
  drawn t there n made =
      let by = made-by (changes_of t) n made in
      let at = applied-in (changes_of t) s.tree (core t there).apply by.0 by.1 in
      subst (λ m. is_drawn_node x.files m ≡ true) by.3 (and_from _ _ (from-two at.0 by.0 at.1 by.2) (below by.0 by.2 (list_all-at (is_made_below s.next_node) (changes_of t) (core t there).made by.0 by.1)))
    where
      from-two : (tree : Tree) (c : Change) → applies tree c ≡ true → is_make c ≡ true → nat_le 2 (node_of c) ≡ true
      from-two tree (Make node parent kind name) is make = (and_parts (nat_le 2 node) (nat_lt node (2 ^ 63)) (Applies-from tree (Make node parent kind name) is).0).0
      from-two tree (Put node offset contents) is make = absurd (true≢false (sym make))
      from-two tree (Cut node size pages) is make = absurd (true≢false (sym make))
      from-two tree (Move node parent name) is make = absurd (true≢false (sym make))
      from-two tree (Drop node) is make = absurd (true≢false (sym make))

      below : (c : Change) → is_make c ≡ true → is_made_below s.next_node c ≡ true → nat_lt (node_of c) s.next_node ≡ true
      below c make is = elim (or_cases _ _ is) [ inl other ↦ absurd (true≢false (sym make ∙ not-true _ other)) | inr less ↦ less ]

  -- two that waited hold nothing both
  held-apart : (t u : Recorded) → IsIn t s.transactions → IsIn u s.transactions → is_held t.stage ≡ true → is_held u.stage ≡ true → (t.id ≡ u.id → ⊥)
      → AreFootprintsApart (footprint s.tree (changes_of t)) (footprint s.tree (changes_of u))
  held-apart t u there there' held held' other = (table.beside t u there there' other).files (held-waits t held) (held-waits u held')

  -- it is of an earlier boot
  earlier : (t : Recorded) → IsIn t s.transactions → not ((t.id).boot == x.recorded.boots) ≡ true
  earlier t there = not_from_false _ (ne_eqb (t.id).boot x.recorded.boots (λ e. omega (arith, e, (booted s).0, leb-true (t.id).boot s.boots (and_parts (is_of_object t.id) (nat_le (t.id).boot s.boots) (core t there).drawn).1)))

  pub files-opened : IsSoundFiles x
  files-opened = record {
    own_undecided = each changed_by has_own_changes (λ o. is_undecided_in x.transactions.items o.transaction) (λ t there held some. undecided-back t there held);
    own_once = own-once;
    own_some = each changed_by has_own_changes (λ o. has_changes o.changes) (λ t there held some. is-some (changes_of t) some);
    own_final = All-by (λ (o : OwnChanges). changes_to_commit o.changes (bytes_seen x.files (Some o.transaction)) ≡ o.changes) own (λ o there.
        let k = kept changed_by has_own_changes o there in
        subst (λ (p : OwnChanges). changes_to_commit p.changes (bytes_seen x.files (Some p.transaction)) ≡ p.changes) k.is
        (ap (λ cs. changes_to_commit (changes_of k.t) (λ file. bytes_with x.files (k.t).id cs file)) (own-back k.t k.there k.held)
        ∙ restored s.tree (changes_of k.t) (first_bytes x.files (k.t).id (changes_of k.t)) (core k.t k.there).apply (core k.t k.there).puts
        (recorded-changes k.t k.there k.held (subst (λ (p : OwnChanges). has_own_changes p ≡ true) (sym k.is) k.some))));
    own_apply = each changed_by has_own_changes (λ o. changes_apply s.tree o.changes) (λ t there held some. (core t there).apply);
    own_opened = each changed_by has_own_changes (λ o. list_all (is_change_of_opened x o.transaction) o.changes) (λ t there held some. list_all-from (is_change_of_opened x t.id) (changes_of t) (λ c has.
        or_left _ _ (or_right (not (changes_bytes c)) _ (earlier t there))));
    own_puts = each changed_by has_own_changes (λ o. list_all puts_some o.changes) (λ t there held some. (core t there).puts);
    own_drawn = each changed_by has_own_changes (λ o. list_all (is_drawn_node x.files) (numbers_made o.changes)) (λ t there held some. list_all-from (is_drawn_node x.files) (numbers_made (changes_of t)) (drawn t there));
    own_new = each changed_by has_own_changes (λ o. list_all (λ n. is_none (node_at s.tree n)) (numbers_made o.changes)) (λ t there held some. list_all-from (λ n. is_none (node_at s.tree n)) (numbers_made (changes_of t)) (λ n made.
        let by = made-by (changes_of t) n made in
        elim (or_cases (not (is_make by.0)) (is_none (node_at s.tree (node_of by.0))) (list_all-at (is_new_in s.tree) (changes_of t) (list_all-at (λ (r : Recorded). list_all (is_new_in s.tree) (changes_of r)) s.transactions good.new t there) by.0 by.1)) [
          | inl other ↦ absurd (true≢false (sym by.2 ∙ not-true _ other))
          | inr is ↦ subst (λ m. is_none (node_at s.tree m) ≡ true) by.3 is
        ]));
    own_differ = pairs changed_by has_own_changes make_apart (λ t u there there' held held' other. not_from_false _ (none-from (is_in (numbers_made (changes_of t))) (numbers_made (changes_of u)) (λ n theirs.
        none-from (λ m. m == n) (numbers_made (changes_of t)) (λ m mine. ne_eqb m n (λ e.
        (held-apart t u there there' held held' other).nodes n (subst (λ k. IsIn k (map node_of (changes_of t))) e (made-node (changes_of t) m mine)) (made-node (changes_of u) n theirs))))));
    own_gone = each changed_by has_own_changes (λ o. not (o.transaction.boot == x.recorded.boots) || list_all (is_gone (tree_of x.files o.transaction)) o.changes) (λ t there held some. or_left _ _ (earlier t there));
    first_once = refl;
    first_undecided = refl;
    first_not_made = refl;
    first_drawn = refl;
    first_versions = refl;
    first_bytes = All-nil _;
    first_last = refl;
    first_files = refl;
    formed = good.files;
    tree_drawn = list_all-from (λ (node : Node). is_drawn_node x.files node.number) s.tree (λ node there. and_from _ _ (le-leb _ _ (All-in (λ (n : Node). 2 ≤ n.number) s.tree good.files.numbers node there))
        (list_all-at (λ (n : Node). nat_lt n.number s.next_node) s.tree good.nodes_below node there));
    next_from = good.next_from;
    next_to = good.next_to;
    versions_rise = refl;
    versions_there = refl;
    opens_rise = refl;
    opens_drawn = refl;
    opens_named = refl;
    opens_plain = refl;
    opens_own = refl;
    opens_files = refl;
    apart = list_all-from _ (undecided x) (λ t there. list_all-from (files_apart x t) (others_undecided x.transactions.items (Some t.id)) (λ u there'.
        let filtered = IsIn-filter (λ (v : Transaction). is_undecided v && not (is_of v.id (Some t.id))) x.transactions.items u there' in
        let parts = and_parts (is_undecided u) (not (is_of u.id (Some t.id))) filtered.1 in
        two t u (waited t there) (waited u (IsIn-kept (λ (v : Transaction). is_undecided v && not (is_of v.id None)) x.transactions.items u filtered.0 (and_from _ _ parts.0 refl))) (not-true _ parts.1)));
    writers = refl;
  }
    where
      is-some : (cs : List Change) → not (length cs == 0) ≡ true → has_changes cs ≡ true
      is-some [] some = absurd (true≢false (sym some))
      is-some (c ∷ cs) some = refl

      two : (t u : Transaction) → (r : Recorded) × IsIn r s.transactions × (is_held r.stage ≡ true) × (r.id ≡ t.id) → (q : Recorded) × IsIn q s.transactions × (is_held q.stage ≡ true) × (q.id ≡ u.id)
          → same_id u.id t.id ≡ false → files_apart x t u ≡ true
      two t u (r, there, held, is) (q, there', held', is') other =
          ap (λ cs. are_apart (holds_by s.tree cs []) (holds_now x.files u.id)) (ap (own_changes own) (sym is) ∙ own-back r there held)
          ∙ ap (λ cs. are_apart (holds_by s.tree (changes_of r) []) (holds_by s.tree cs [])) (ap (own_changes own) (sym is') ∙ own-back q there' held')
          ∙ are_apart-from s.tree (changes_of r) (changes_of q) (held-apart r q there there' held held' (λ e. true≢false (sym (same_id-from u.id t.id (sym is' ∙ sym e ∙ is)) ∙ other)))
