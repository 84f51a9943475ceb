-- Good states with other bytes, and that other bytes make no state good.
use Rattle.std.proofs.Common.{◌≡◌, ℕ, ◌≤◌, ◌==◌, ◌&&◌, ◌||◌, not, Bool, true, List, [], ◌∷◌, ◌++◌, map, length, find, Option, Some, None, is_none, nat_lt, nat_le, count_by, refl, sym, ◌∙◌, ap, inl, inr, All}
use Rattle.std.specs.Prelude.{option_map}
use Rattle.std.specs.List.{list_all, flat_map}
use Rattle.std.proofs.lemmas.Bool.{cases_Bool}
use Rattle.std.proofs.lemmas.List.Elements.{All-nil, All-cons, All-head, All-tail, All-map, All-weaker}
use Rattle.std.proofs.lemmas.Option.{none-some, same_Some}
use Rattle.ktm_base.specs.declared.limits.TheConstants.{MOST_INFORMATION_BYTES}
use Rattle.ktm_base.specs.Names.{IsName}
use Rattle.ktm_world.specs.declared.change.Change.{Change}
use Rattle.ktm_world.specs.declared.recorded.Node.{Node}
use Rattle.ktm_world.specs.declared.recorded.RecordedPart.{RecordedPart}
use Rattle.ktm_world.specs.declared.event.DonePart.{DonePart}
use Rattle.ktm_world.specs.declared.event.Part.{Part}
use Rattle.ktm_world.specs.declared.event.Part.TheVariants.{Changes}
use Rattle.ktm_world.specs.Changes.{changes_apply, has_changes}
use Rattle.ktm_world.specs.Durable.{Durable, Recorded, changes_of, enlistments_of, is_before, is_decided, is_manager, is_new_in, is_part_of, is_ready, are_recorded_changes, waiting}
use Rattle.ktm_world.specs.Keys.{are_good_settings}
use Rattle.ktm_world.specs.Lawful.{are_apart, set_both}
use Rattle.ktm_world.specs.Transactions.{same_id}
use Rattle.ktm_world.specs.Tree.{Tree, IsWellFormed, node_at, numbers_rise, root, is_directory, is_at_or_below, same_name, child_of}
use Rattle.ktm_world.proofs.offered.Lookups.{Rises, Rises-from}
use Rattle.txf_laws.specs.Contents.{is_made_below, puts_some}
use Rattle.txf_laws.specs.Elements.{each_pair}
use Rattle.txf_laws.proofs.offered.ChangeTests.{All-at, number-at}
use Rattle.txf_laws.specs.GoodState.{IsGoodState, is_drawn, enlisted_in, superiors_in, enlisted, has_one_part_each, is_ready_well, is_held_well, is_decided_well, is_done_well, are_kept_changes, are_kept_settings, wait_apart, set_no_key_both}
use Rattle.ktm_mapped.specs.Mapped.{IsBlank, mapped_node, mapped_tree, mapped_change, mapped_part, mapped_recorded_part, mapped_recorded, mapped_durable}
use Rattle.ktm_mapped.proofs.offered.Lists.{list_all-mapped, count_by-mapped, each_pair-mapped, flat_map-same}
use Rattle.ktm_mapped.proofs.offered.Trees.{child_of-mapped, is_directory-mapped, is_at_or_below-mapped, changes_apply-mapped}
use Rattle.ktm_mapped.proofs.offered.Holds.{is_made_below-mapped, puts_some-mapped, is_new_in-mapped, has_changes-mapped, are_recorded_changes-mapped}
use Rattle.ktm_mapped.proofs.offered.Events.{is_part_of-mapped, changes_of-mapped, settings_of-mapped, enlistments_of-mapped, is_left-mapped}
use Rattle.ktm_mapped.proofs.offered.Applying.{is_sole-mapped, has_part-mapped, has_changes_part-mapped, has_settings_part-mapped, waiting-mapped, holds_in-mapped, is_within_limits-mapped}

-- ---- well-formed trees

All-unmap : {X Y : Type 0} (P : Y → Type 0) (g : X → Y) (xs : List X) → All P (map g xs) → All (λ x. P (g x)) xs
All-unmap P g [] all = All-nil (λ x. P (g x))
All-unmap P g (x ∷ xs) all = All-cons (λ x. P (g x)) x xs (All-head P (g x) (map g xs) all) (All-unmap P g xs (All-tail P (g x) (map g xs) all))

-- what holds of each node holds of the one that is found
at-found : (P : Node → Type 0) (test : Node → Bool) (tree : Tree) → All P tree → (node : Node) → find test tree ≡ Some node → P node
at-found P test [] all node found = absurd (none-some node found)
at-found P test (x ∷ xs) all node found = elim (cases_Bool (test x)) [
  | inl is ↦ let e : x ≡ node = same_Some x node (rw is at found) in rw e at (All-head P x xs all)
  | inr other ↦ at-found P test xs (All-tail P x xs all) node (rw other at found)
]

-- each node is found by its number
numbered : (tree : Tree) → Rises tree → All (λ node. node_at tree node.number ≡ Some node) tree
numbered tree rises = All-at (λ node. node_at tree node.number ≡ Some node) tree rises (λ m node found. ap (node_at tree) (number-at tree m node found) ∙ found)

module _ (f : ℕ → ℕ) where
  numbers_rise-mapped : (tree : Tree) → numbers_rise (mapped_tree f tree) ≡ numbers_rise tree
  numbers_rise-mapped [] = refl
  numbers_rise-mapped (node ∷ []) = refl
  numbers_rise-mapped (node ∷ next ∷ nodes) = λ i. nat_lt node.number next.number && numbers_rise-mapped (next ∷ nodes) i

  tests-mapped : (test before : Node → Bool) → ((node : Node) → test (mapped_node f node) ≡ before node) → (tree : Tree) → All (λ node. before node ≡ true) tree → All (λ node. test node ≡ true) (mapped_tree f tree)
  tests-mapped test before same tree all =
      All-map (λ node. test node ≡ true) (mapped_node f) tree (All-weaker (λ node. before node ≡ true) (λ node. test (mapped_node f node) ≡ true) (λ node is. same node ∙ is) tree all)

  tests-unmapped : (test before : Node → Bool) → ((node : Node) → test (mapped_node f node) ≡ before node) → (tree : Tree) → All (λ node. test node ≡ true) (mapped_tree f tree) → All (λ node. before node ≡ true) tree
  tests-unmapped test before same tree all =
      All-weaker (λ node. test (mapped_node f node) ≡ true) (λ node. before node ≡ true) (λ node is. sym (same node) ∙ is) tree (All-unmap (λ node. test node ≡ true) (mapped_node f) tree all)

  IsWellFormed-mapped : (tree : Tree) → IsWellFormed tree → IsWellFormed (mapped_tree f tree)
  IsWellFormed-mapped tree formed = record {
    parents = tests-mapped (λ node. is_directory (mapped_tree f tree) node.parent) (λ node. is_directory tree node.parent) (λ node. is_directory-mapped f tree node.parent) tree formed.parents;
    reach = tests-mapped (λ node. is_at_or_below (mapped_tree f tree) node.number root) (λ node. is_at_or_below tree node.number root) (λ node. is_at_or_below-mapped f tree node.number root) tree formed.reach;
    names = All-map (λ (node : Node). IsName node.name) (mapped_node f) tree formed.names;
    one_each = All-map (λ node. child_of (mapped_tree f tree) node.parent node.name ≡ Some node) (mapped_node f) tree
        (All-weaker (λ node. child_of tree node.parent node.name ≡ Some node) (λ node. child_of (mapped_tree f tree) node.parent node.name ≡ Some (mapped_node f node))
        (λ node is. child_of-mapped f tree node.parent node.name ∙ ap (option_map (mapped_node f)) is) tree formed.one_each);
    numbers = All-map (λ (node : Node). 2 ≤ node.number) (mapped_node f) tree formed.numbers;
    rise = numbers_rise-mapped tree ∙ formed.rise;
  }

  -- a node that has the place of another one is that one, since no two have the same number
  one_each-unmapped : (tree : Tree) → Rises tree → (node : Node) → node_at tree node.number ≡ Some node → child_of (mapped_tree f tree) node.parent node.name ≡ Some (mapped_node f node)
      → child_of tree node.parent node.name ≡ Some node
  one_each-unmapped tree rises node there is = go (child_of tree node.parent node.name) refl (sym (child_of-mapped f tree node.parent node.name) ∙ is)
    where
      go : (o : Option Node) → child_of tree node.parent node.name ≡ o → option_map (mapped_node f) o ≡ Some (mapped_node f node) → child_of tree node.parent node.name ≡ Some node
      go None found same = absurd (none-some (mapped_node f node) same)
      go (Some other) found same =
          found ∙ sym (at-found (λ node. node_at tree node.number ≡ Some node) (λ n. n.parent == node.parent && same_name n.name node.name) tree (numbered tree rises) other found)
          ∙ ap (λ (n : Node). node_at tree n.number) (same_Some (mapped_node f other) (mapped_node f node) same) ∙ there

  IsWellFormed-unmapped : (tree : Tree) → IsWellFormed (mapped_tree f tree) → IsWellFormed tree
  IsWellFormed-unmapped tree formed = record {
    parents = tests-unmapped (λ node. is_directory (mapped_tree f tree) node.parent) (λ node. is_directory tree node.parent) (λ node. is_directory-mapped f tree node.parent) tree formed.parents;
    reach = tests-unmapped (λ node. is_at_or_below (mapped_tree f tree) node.number root) (λ node. is_at_or_below tree node.number root) (λ node. is_at_or_below-mapped f tree node.number root) tree formed.reach;
    names = All-unmap (λ (node : Node). IsName node.name) (mapped_node f) tree formed.names;
    one_each = λ k d less. one_each-unmapped tree rises _ (numbered tree rises k d less) (All-unmap (λ node. child_of (mapped_tree f tree) node.parent node.name ≡ Some node) (mapped_node f) tree formed.one_each k d less);
    numbers = All-unmap (λ (node : Node). 2 ≤ node.number) (mapped_node f) tree formed.numbers;
    rise = rise;
  }
    where
      rise : numbers_rise tree ≡ true
      rise = sym (numbers_rise-mapped tree) ∙ formed.rise

      rises : Rises tree
      rises = Rises-from tree rise

  -- ---- transactions

  enlisted_in-mapped : (part : Part) → enlisted_in (mapped_part f part) ≡ enlisted_in part
  enlisted_in-mapped (Changes changes) = refl
  enlisted_in-mapped _ = refl

  enlisted-mapped : (t : Recorded) → enlisted (mapped_recorded f t) ≡ enlisted t
  enlisted-mapped t = λ i. superiors_in t.superior ++ flat_map-same (λ p. enlisted_in p.part) (λ p. enlisted_in p.part) (mapped_recorded_part f) (λ p. enlisted_in-mapped p.part) t.parts i

  parts_of-mapped : (done : DonePart) (parts : List RecordedPart) → count_by (λ p. is_part_of done p.part) (map (mapped_recorded_part f) parts) ≡ count_by (λ p. is_part_of done p.part) parts
  parts_of-mapped done parts = count_by-mapped _ _ (mapped_recorded_part f) (λ p. is_part_of-mapped f done p.part) parts

  has_one_part_each-mapped : (t : Recorded) → has_one_part_each (mapped_recorded f t) ≡ has_one_part_each t
  has_one_part_each-mapped t = λ i. nat_le (parts_of-mapped DonePart.Files t.parts i) 1 && nat_le (parts_of-mapped DonePart.Keys t.parts i) 1

  are_done_well-mapped : (t : Recorded) → list_all (is_done_well (mapped_recorded f t)) (mapped_recorded f t).parts ≡ list_all (is_done_well t) t.parts
  are_done_well-mapped t =
      list_all-mapped (is_done_well (mapped_recorded f t)) (is_done_well t) (mapped_recorded_part f) (λ p i. not p.is_done || (is_decided t.stage && is_sole-mapped f p.part i)) t.parts

  are_kept_changes-mapped : (t : Recorded) → are_kept_changes (mapped_recorded f t) ≡ are_kept_changes t
  are_kept_changes-mapped t = λ i.
      (not (is_decided t.stage) || not ((ap has_changes (changes_of-mapped f t) ∙ has_changes-mapped f (changes_of t)) i))
      && (is_decided t.stage || not (has_changes_part-mapped f t i) || (ap are_recorded_changes (changes_of-mapped f t) ∙ are_recorded_changes-mapped f (changes_of t)) i)

  are_kept_settings-mapped : (t : Recorded) → are_kept_settings (mapped_recorded f t) ≡ are_kept_settings t
  are_kept_settings-mapped t = λ i.
      (not (is_decided t.stage) || length (settings_of-mapped f t i) == 0)
      && (is_decided t.stage || not (has_settings_part-mapped f t i) || are_good_settings (settings_of-mapped f t i))

-- ---- good states, by one equation for each test

module _ (f : ℕ → ℕ) (blank : IsBlank f) (s : Durable) where
  -- a test of each transaction, of each of its changes, of each enlistment, and of each two that wait
  each : (test before : Recorded → Bool) → ((t : Recorded) → test (mapped_recorded f t) ≡ before t) → list_all test (mapped_durable f s).transactions ≡ list_all before s.transactions
  each test before same = list_all-mapped test before (mapped_recorded f) same s.transactions

  each_change : (test before : Change → Bool) → ((c : Change) → test (mapped_change f c) ≡ before c)
      → list_all (λ t. list_all test (changes_of t)) (mapped_durable f s).transactions ≡ list_all (λ t. list_all before (changes_of t)) s.transactions
  each_change test before same =
      each (λ t. list_all test (changes_of t)) (λ t. list_all before (changes_of t)) (λ t. ap (list_all test) (changes_of-mapped f t) ∙ list_all-mapped test before (mapped_change f) same (changes_of t))

  all_enlisted : flat_map enlisted (mapped_durable f s).transactions ≡ flat_map enlisted s.transactions
  all_enlisted = flat_map-same _ _ (mapped_recorded f) (enlisted-mapped f) s.transactions

  all_enlistments : flat_map enlistments_of (mapped_durable f s).transactions ≡ flat_map enlistments_of s.transactions
  all_enlistments = flat_map-same _ _ (mapped_recorded f) (enlistments_of-mapped f) s.transactions

  each_two : (test before : Recorded → Recorded → Bool) → ((t u : Recorded) → test (mapped_recorded f t) (mapped_recorded f u) ≡ before t u)
      → each_pair test (waiting (mapped_durable f s)) ≡ each_pair before (waiting s)
  each_two test before same = ap (each_pair test) (waiting-mapped f s) ∙ each_pair-mapped test before (mapped_recorded f) same (waiting s)

  transactions_rise : each_pair (λ (t u : Recorded). is_before t.id u.id) (mapped_durable f s).transactions ≡ each_pair (λ (t u : Recorded). is_before t.id u.id) s.transactions
  transactions_rise = each_pair-mapped _ _ (mapped_recorded f) (λ t u. refl) s.transactions

  transactions_drawn : list_all (λ t. is_drawn s t.id) (mapped_durable f s).transactions ≡ list_all (λ t. is_drawn s t.id) s.transactions
  transactions_drawn = each _ _ (λ t. refl)

  parts : list_all has_one_part_each (mapped_durable f s).transactions ≡ list_all has_one_part_each s.transactions
  parts = each _ _ (has_one_part_each-mapped f)

  ready : list_all is_ready_well (mapped_durable f s).transactions ≡ list_all is_ready_well s.transactions
  ready = each _ _ (λ t i. not (is_ready t.stage) || (has_part-mapped f t i && is_none t.superior))

  held : list_all is_held_well (mapped_durable f s).transactions ≡ list_all is_held_well s.transactions
  held = each _ _ (λ t. refl)

  decided : list_all is_decided_well (mapped_durable f s).transactions ≡ list_all is_decided_well s.transactions
  decided = each _ _ (λ t i. not (is_decided t.stage) || is_left-mapped f t.parts i)

  done : list_all (λ t. list_all (is_done_well t) t.parts) (mapped_durable f s).transactions ≡ list_all (λ t. list_all (is_done_well t) t.parts) s.transactions
  done = each _ _ (are_done_well-mapped f)

  changes : list_all are_kept_changes (mapped_durable f s).transactions ≡ list_all are_kept_changes s.transactions
  changes = each _ _ (are_kept_changes-mapped f)

  apply : list_all (λ t. changes_apply (mapped_tree f s.tree) (changes_of t)) (mapped_durable f s).transactions ≡ list_all (λ t. changes_apply s.tree (changes_of t)) s.transactions
  apply = each (λ t. changes_apply (mapped_tree f s.tree) (changes_of t)) (λ t. changes_apply s.tree (changes_of t))
      (λ t. ap (changes_apply (mapped_tree f s.tree)) (changes_of-mapped f t) ∙ changes_apply-mapped f blank s.tree (changes_of t))

  settings : list_all are_kept_settings (mapped_durable f s).transactions ≡ list_all are_kept_settings s.transactions
  settings = each _ _ (are_kept_settings-mapped f)

  apart : each_pair (wait_apart (mapped_durable f s)) (waiting (mapped_durable f s)) ≡ each_pair (wait_apart s) (waiting s)
  apart = each_two (wait_apart (mapped_durable f s)) (wait_apart s)
      (λ t u i. are_apart (holds_in-mapped f blank s t i) (holds_in-mapped f blank s u i) && are_apart (holds_in-mapped f blank s u i) (holds_in-mapped f blank s t i))

  keys_apart : each_pair set_no_key_both (waiting (mapped_durable f s)) ≡ each_pair set_no_key_both (waiting s)
  keys_apart = each_two _ _ (λ t u i. not (set_both (settings_of-mapped f t i) (settings_of-mapped f u i)))

  nodes_below : list_all (λ node. nat_lt node.number s.next_node) (mapped_tree f s.tree) ≡ list_all (λ node. nat_lt node.number s.next_node) s.tree
  nodes_below = list_all-mapped _ _ (mapped_node f) (λ node. refl) s.tree

  made : list_all (λ t. list_all (is_made_below s.next_node) (changes_of t)) (mapped_durable f s).transactions ≡ list_all (λ t. list_all (is_made_below s.next_node) (changes_of t)) s.transactions
  made = each_change _ _ (is_made_below-mapped f s.next_node)

  new : list_all (λ t. list_all (is_new_in (mapped_tree f s.tree)) (changes_of t)) (mapped_durable f s).transactions ≡ list_all (λ t. list_all (is_new_in s.tree) (changes_of t)) s.transactions
  new = each_change (is_new_in (mapped_tree f s.tree)) (is_new_in s.tree) (is_new_in-mapped f s.tree)

  puts : list_all (λ t. list_all puts_some (changes_of t)) (mapped_durable f s).transactions ≡ list_all (λ t. list_all puts_some (changes_of t)) s.transactions
  puts = each_change _ _ (puts_some-mapped f)

  pub good-mapped : IsGoodState s → IsGoodState (mapped_durable f s)
  good-mapped good = record {
    image_fits = good.image_fits;
    transactions_rise = transactions_rise ∙ good.transactions_rise;
    managers_rise = good.managers_rise;
    enlistments_differ = ap (each_pair (λ a b. not (same_id a b))) all_enlistments ∙ good.enlistments_differ;
    transactions_drawn = transactions_drawn ∙ good.transactions_drawn;
    managers_drawn = good.managers_drawn;
    enlistments_drawn = ap (list_all (λ e. is_drawn s e.enlistment)) all_enlisted ∙ good.enlistments_drawn;
    managers_there = ap (list_all (λ e. is_manager s e.manager)) all_enlisted ∙ good.managers_there;
    information_fits = ap (list_all (λ e. nat_le (length e.information) MOST_INFORMATION_BYTES)) all_enlisted ∙ good.information_fits;
    parts = parts ∙ good.parts;
    ready = ready ∙ good.ready;
    held = held ∙ good.held;
    decided = decided ∙ good.decided;
    done = done ∙ good.done;
    changes = changes ∙ good.changes;
    apply = apply ∙ good.apply;
    made = made ∙ good.made;
    new = new ∙ good.new;
    puts = puts ∙ good.puts;
    settings = settings ∙ good.settings;
    apart = apart ∙ good.apart;
    keys_apart = keys_apart ∙ good.keys_apart;
    limits = is_within_limits-mapped f blank s ∙ good.limits;
    events_left = good.events_left;
    boots_left = good.boots_left;
    files = IsWellFormed-mapped f s.tree good.files;
    nodes_below = nodes_below ∙ good.nodes_below;
    next_from = good.next_from;
    next_to = good.next_to;
    keys_rise = good.keys_rise;
    keys_good = good.keys_good;
  }

  pub good-unmapped : IsGoodState (mapped_durable f s) → IsGoodState s
  good-unmapped good = record {
    image_fits = good.image_fits;
    transactions_rise = sym transactions_rise ∙ good.transactions_rise;
    managers_rise = good.managers_rise;
    enlistments_differ = ap (each_pair (λ a b. not (same_id a b))) (sym all_enlistments) ∙ good.enlistments_differ;
    transactions_drawn = sym transactions_drawn ∙ good.transactions_drawn;
    managers_drawn = good.managers_drawn;
    enlistments_drawn = ap (list_all (λ e. is_drawn s e.enlistment)) (sym all_enlisted) ∙ good.enlistments_drawn;
    managers_there = ap (list_all (λ e. is_manager s e.manager)) (sym all_enlisted) ∙ good.managers_there;
    information_fits = ap (list_all (λ e. nat_le (length e.information) MOST_INFORMATION_BYTES)) (sym all_enlisted) ∙ good.information_fits;
    parts = sym parts ∙ good.parts;
    ready = sym ready ∙ good.ready;
    held = sym held ∙ good.held;
    decided = sym decided ∙ good.decided;
    done = sym done ∙ good.done;
    changes = sym changes ∙ good.changes;
    apply = sym apply ∙ good.apply;
    made = sym made ∙ good.made;
    new = sym new ∙ good.new;
    puts = sym puts ∙ good.puts;
    settings = sym settings ∙ good.settings;
    apart = sym apart ∙ good.apart;
    keys_apart = sym keys_apart ∙ good.keys_apart;
    limits = sym (is_within_limits-mapped f blank s) ∙ good.limits;
    events_left = good.events_left;
    boots_left = good.boots_left;
    files = IsWellFormed-unmapped f s.tree good.files;
    nodes_below = sym nodes_below ∙ good.nodes_below;
    next_from = good.next_from;
    next_to = good.next_to;
    keys_rise = good.keys_rise;
    keys_good = good.keys_good;
  }
