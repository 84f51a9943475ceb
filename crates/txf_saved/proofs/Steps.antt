-- One node more is made, up to all of them.
use Rattle.std.proofs.Common.{◌≡◌, ℕ, ◌+◌, ◌<◌, ◌^◌, ◌==◌, suc, true, false, is_some, List, [], ◌∷◌, ◌++◌, length, get_or, Some, None, sym, ◌∙◌, ap, arith, inl, inr, subst}
use Rattle.std.specs.Prelude.{reverse, max, nat_le, nat_lt}
use Rattle.std.proofs.lemmas.Bool.{cases_Bool, cases_order, and_parts, eqb-true, ltb-true, true≢false}
use Rattle.std.proofs.lemmas.Option.{none-some}
use Rattle.ktm_base.specs.Names.{IsName}
use Rattle.ktm_snapshot.specs.declared.node.ReadNode.{ReadNode}
use Rattle.ktm_snapshot.specs.declared.node.ShownNode.{ShownNode}
use Rattle.ktm_snapshot.specs.Shown.{node_of}
use Rattle.ktm_world.specs.declared.recorded.Node.{Node}
use Rattle.ktm_world.specs.Changes.{applies}
use Rattle.ktm_world.specs.Paths.{is_name}
use Rattle.ktm_world.specs.Tree.{Tree, IsWellFormed, is_there, node_at, numbers_rise, root, with_node}
use Rattle.ktm_world.proofs.offered.Lookups.{Rises-from}
use Rattle.txf_durable.specs.State.{DurableFilesState}
use Rattle.txf_laws.proofs.offered.ChangeTests.{Applies-from, Good-from, is_there-none}
use Rattle.txf_saved.proofs.Numbers.{behind-with_node}
use Rattle.txf_saved.proofs.Parts.{all_made, can_make, keeps-with_node, made-there, part-with_node}
use Rattle.txf_saved.proofs.Ways.{last_first, way-down}
use Rattle.txf_saved.specs.Making.{make_of, nodes_of, way_of, AreAll, ArePart, Awaits, IsWay, IsWayMade, Keeps}
use Rattle.txf_saved.specs.Saved.{AreFiles, number_behind}
use Rattle.txf_tree.specs.TreeState.{tree_of}

module _ (nodes : Tree) (number : ℕ) (files : DurableFilesState) (before way : List ShownNode) (x : ShownNode) (is : before ≡ way ++ x ∷ []) (awaits : Awaits nodes number files before) where
  abbrev pub tree : Tree
  tree = tree_of files.tree

  ahead : IsWay nodes tree number awaits.leads.top (node_of x ∷ reverse (way_of way))
  ahead = subst (IsWay nodes tree number awaits.leads.top) (ap (λ (w : List ShownNode). reverse (way_of w)) is ∙ last_first way x) awaits.leads.up

  known : node_at nodes x.number ≡ Some (node_of x)
  known = ahead.0

  gone : is_there tree x.number ≡ false
  gone = ahead.1

  there : is_there tree x.parent ≡ true
  there = ap (is_there tree) ahead.2 ∙ awaits.leads.there

  new : node_at tree x.number ≡ None
  new = is_there-none tree x.number gone

  -- the next one can be made where the nodes are files
  pub must_apply : ((name : List ℕ) → IsName name → is_name name ≡ true) → IsWellFormed tree → applies tree (make_of (node_of x)) ≡ false → AreFiles nodes → ⊥
  must_apply names formed not_made files' =
      true≢false (sym (can_make nodes tree (node_of x) files' (Rises-from tree formed.rise) awaits.part.part known gone names there) ∙ not_made)

  module _ (files' : DurableFilesState) (made : applies tree (make_of (node_of x)) ≡ true) (tree' : tree_of files'.tree ≡ with_node tree (node_of x)) (next' : files'.next_node ≡ max files.next_node (x.number + 1)) where
    few : x.number < 2 ^ 63
    few = ltb-true _ _ (and_parts (nat_le 2 x.number) (nat_lt x.number (2 ^ 63)) (Applies-from tree (make_of (node_of x)) made).0).1

    part : ArePart nodes files'
    part = record {
      part = rw tree' (part-with_node nodes tree (node_of x) known new awaits.part.part);
      next = next' ∙ ap (λ (n : ℕ). max n (x.number + 1)) awaits.part.next ∙ sym (behind-with_node tree (node_of x)) ∙ ap number_behind (sym tree');
      numbers = omega (arith, next', few, awaits.part.numbers);
    }

    -- and then the rest of the way waits
    pub goes_down : Awaits nodes number files' way
    goes_down = record {
      part = part;
      leads = record {
        top = x.number;
        there = rw tree' (made-there tree (node_of x) new);
        up = rw tree' (way-down nodes tree (node_of x) known gone there number (reverse (way_of way)) ahead.3);
      };
    }

    pub keeps : Keeps tree (tree_of files'.tree)
    keeps = rw tree' (keeps-with_node tree (node_of x) new)

-- a way is made once nothing of it is left
pub way_made : (nodes : Tree) (number : ℕ) (old files : DurableFilesState) (way : List ShownNode) → way ≡ [] → Awaits nodes number files way → Keeps (tree_of old.tree) (tree_of files.tree) → IsWayMade nodes number old files
way_made nodes number old files way none awaits keeps = record {
  part = awaits.part;
  there = ap (is_there (tree_of files.tree)) (sym (subst (λ (w : List ShownNode). IsWay nodes (tree_of files.tree) number awaits.leads.top (reverse (way_of w))) none awaits.leads.up)) ∙ awaits.leads.there;
  keeps = keeps;
}

-- ---- all of them

-- no node is made yet
pub begins : (nodes : Tree) (files : DurableFilesState) → tree_of files.tree ≡ [] → files.next_node ≡ 2 → ArePart nodes files
begins nodes files none next = record {
  part = λ n x found. absurd (none-some x (ap (λ (t : Tree). node_at t n) (sym none) ∙ found));
  next = next ∙ sym (ap number_behind none);
  numbers = omega (arith, next);
}

-- one that is no root is there by its number
pub there-node : (tree : Tree) (n : ℕ) → (n == root) ≡ false → is_there tree n ≡ true → is_some (node_at tree n) ≡ true
there-node tree n other there = rw other at there

-- one node further
pub further : (xs : List ReadNode) (nodes : Tree) (old new : DurableFilesState) (i n : ℕ) → ((d : ReadNode) → (get_or xs i d).number ≡ n) → (n == root) ≡ false → IsWayMade nodes n old new
    → ((k : ℕ) (d : ReadNode) → k < i → is_some (node_at (tree_of old.tree) (get_or xs k d).number) ≡ true) → (k : ℕ) (d : ReadNode) → k < i + 1 → is_some (node_at (tree_of new.tree) (get_or xs k d).number) ≡ true
further xs nodes old new i n at other made before k d low = elim (cases_order k i) [
  | inl is ↦ subst (λ (j : ℕ). is_some (node_at (tree_of new.tree) (get_or xs j d).number) ≡ true) (sym is) (subst (λ (m : ℕ). is_some (node_at (tree_of new.tree) m) ≡ true) (sym (at d)) (there-node (tree_of new.tree) n other made.there))
  | inr (inl less) ↦ made.keeps _ (before k d less)
  | inr (inr more) ↦ absurd (omega (arith, low, more))
]

-- the root is no node
pub root_given : (nodes : Tree) (n : ℕ) (x : Node) → node_at nodes n ≡ Some x → n ≡ root → AreFiles nodes → ⊥
root_given nodes n x found is files = absurd (omega (arith, is, (Good-from nodes files.formed).numbers n x found))

-- where a node stands
place : (xs : List ReadNode) (n : ℕ) (x : Node) → node_at (nodes_of xs) n ≡ Some x → (k : ℕ) × (d : ReadNode) × (k < length xs) × ((get_or xs k d).number ≡ n)
place [] n x found = absurd (none-some x found)
place (y ∷ ys) n x found = elim (cases_Bool (y.number == n)) [
  | inl is ↦ (0, y, omega arith, eqb-true _ _ is)
  | inr other ↦ let (k, d, within, at) = place ys n x (rw other at found) in (suc k, d, omega (arith, within), at)
]

pub finish : (xs : List ReadNode) (files : DurableFilesState) → numbers_rise (nodes_of xs) ≡ true → IsWellFormed (tree_of files.tree) → ArePart (nodes_of xs) files
    → ((k : ℕ) (d : ReadNode) → k < length xs → is_some (node_at (tree_of files.tree) (get_or xs k d).number) ≡ true) → AreAll (nodes_of xs) files
finish xs files rise formed part made = record {
  tree = same;
  are_files = record { formed = subst IsWellFormed same formed; numbers = omega (arith, ap number_behind same, part.next, part.numbers) };
  next = part.next ∙ ap number_behind same;
}
  where
    each : (m : ℕ) (x : Node) → node_at (nodes_of xs) m ≡ Some x → is_some (node_at (tree_of files.tree) m) ≡ true
    each m x found = let (k, d, within, at) = place xs m x found in subst (λ n. is_some (node_at (tree_of files.tree) n) ≡ true) at (made k d within)

    same : tree_of files.tree ≡ nodes_of xs
    same = all_made (nodes_of xs) (tree_of files.tree) rise formed.rise part.part each
