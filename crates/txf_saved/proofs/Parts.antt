-- Files that are a part of the nodes of a snapshot.
use Rattle.std.proofs.Common.{◌≡◌, ℕ, ◌<◌, ◌≤◌, ◌^◌, ◌==◌, ◌&&◌, ◌||◌, cond, not, Bool, true, false, is_some, List, Option, Some, None, refl, sym, ◌∙◌, ap, arith, inl, inr}
use Rattle.std.proofs.lemmas.Bool.{cases_Bool, eq-eqb, eqb-true, and_parts, and_from, not-true, not_from_false, true≢false, false_from_ne_true, lt-ltb, le-leb}
use Rattle.std.proofs.lemmas.Option.{none-some}
use Rattle.ktm_base.specs.Names.{IsName}
use Rattle.ktm_world.specs.declared.recorded.Node.{Node}
use Rattle.ktm_world.specs.Changes.{applies}
use Rattle.ktm_world.specs.Paths.{is_name}
use Rattle.ktm_world.specs.Tree.{Tree, content_of, is_file, is_there, node_at, numbers_rise, root, same_name, with_node}
use Rattle.ktm_world.proofs.offered.Lookups.{Rises, Rises-from, node_at-with_node, same_trees}
use Rattle.txf_laws.proofs.offered.ChangeTests.{Good, Good-from, All-at, applies-from, find-from_NoneAt, is_there-none}
use Rattle.txf_saved.proofs.Numbers.{behind-at}
use Rattle.txf_saved.specs.Making.{make_of, IsPartOf, Keeps}
use Rattle.txf_saved.specs.Saved.{AreFiles}

-- ---- one node more

pub there-with_node : (tree : Tree) (x : Node) → node_at tree x.number ≡ None → (n : ℕ) → is_there (with_node tree x) n ≡ (x.number == n || is_there tree n)
there-with_node tree x new n = rw (node_at-with_node tree x n new) (go (n == root) (x.number == n) (node_at tree n))
  where
    go : (at_root own : Bool) (o : Option Node) → (at_root || is_some (cond own (Some x) o)) ≡ (own || (at_root || is_some o))
    go true true o = refl
    go true false o = refl
    go false true o = refl
    go false false o = refl

pub keeps-with_node : (tree : Tree) (x : Node) → node_at tree x.number ≡ None → Keeps tree (with_node tree x)
keeps-with_node tree x new n there = rw (node_at-with_node tree x n new) (go (x.number == n))
  where
    go : (own : Bool) → is_some (cond own (Some x) (node_at tree n)) ≡ true
    go true = refl
    go false = there

pub made-there : (tree : Tree) (x : Node) → node_at tree x.number ≡ None → is_there (with_node tree x) x.number ≡ true
made-there tree x new = there-with_node tree x new x.number ∙ rw (eq-eqb x.number x.number refl) refl

pub part-with_node : (nodes tree : Tree) (x : Node) → node_at nodes x.number ≡ Some x → node_at tree x.number ≡ None → IsPartOf nodes tree → IsPartOf nodes (with_node tree x)
part-with_node nodes tree x known new part n y found = elim (cases_Bool (x.number == n)) [
  | inl is ↦
      let same : Some x ≡ Some y = rw (node_at-with_node tree x n new, is) at found in
      ap (node_at nodes) (sym (eqb-true _ _ is)) ∙ known ∙ same
  | inr other ↦ part n y (rw (node_at-with_node tree x n new, other) at found)
]

-- ---- the node can be made

module _ (nodes tree : Tree) (x : Node) (files : AreFiles nodes) (rises : Rises tree) (part : IsPartOf nodes tree) (known : node_at nodes x.number ≡ Some x) where
  good : Good nodes
  good = Good-from nodes files.formed

  -- what it is in is no file
  in_no_file : (o : Option Node) → node_at tree x.parent ≡ o → is_some (content_of o) ≡ false
  in_no_file None is = refl
  in_no_file (Some y) is =
      let directory = good.parents x.number x known in
      let no_file : is_file nodes x.parent ≡ false = not-true _ (and_parts (is_there nodes x.parent) (not (is_file nodes x.parent)) directory).1 in
      ap (λ (o : Option Node). is_some (content_of o)) (sym (part x.parent y is)) ∙ no_file

  module _ (gone : is_there tree x.number ≡ false) where
    -- nothing in its directory has its name
    free_of : (m : ℕ) (y : Node) → node_at tree m ≡ Some y → (y.parent == x.parent && same_name y.name x.name) ≡ false
    free_of m y found = false_from_ne_true _ (λ at.
        let same : m ≡ x.number = good.one_each x.number m x y known (part m y found) at in
        none-some y (sym (is_there-none tree x.number gone) ∙ ap (node_at tree) (sym same) ∙ found))

    pub can_make : ((name : List ℕ) → IsName name → is_name name ≡ true) → is_there tree x.parent ≡ true → applies tree (make_of x) ≡ true
    can_make names there =
        let least : 2 ≤ x.number = good.numbers x.number x known in
        let most : x.number < 2 ^ 63 = omega (arith, behind-at nodes x.number x known, files.numbers) in
        applies-from tree (make_of x) (
          and_from _ _ (le-leb 2 x.number least) (lt-ltb x.number (2 ^ 63) most),
          gone,
          and_from _ _ there (not_from_false _ (in_no_file (node_at tree x.parent) refl)),
          names x.name (good.names x.number x known),
          find-from_NoneAt (λ node. node.parent == x.parent && same_name node.name x.name) tree
              (All-at (λ node. (node.parent == x.parent && same_name node.name x.name) ≡ false) tree rises free_of),
        )

-- ---- all nodes are made

pub all_made : (nodes tree : Tree) → numbers_rise nodes ≡ true → numbers_rise tree ≡ true → IsPartOf nodes tree → ((m : ℕ) (x : Node) → node_at nodes m ≡ Some x → is_some (node_at tree m) ≡ true) → tree ≡ nodes
all_made nodes tree rise rise' part made = same_trees tree nodes (Rises-from tree rise') (Rises-from nodes rise) (λ m. go m (node_at tree m) (node_at nodes m) refl refl)
  where
    go : (m : ℕ) (o p : Option Node) → node_at tree m ≡ o → node_at nodes m ≡ p → node_at tree m ≡ node_at nodes m
    go m (Some x) p is is' = is ∙ sym (part m x is)
    go m None (Some x) is is' = absurd (true≢false (sym (made m x is') ∙ ap (λ (o : Option Node). is_some o) is))
    go m None None is is' = is ∙ sym is'
