-- Where a path leads in a well-formed tree, and the changes that apply there.
use Rattle.std.proofs.Common.{◌≡◌, ℕ, ◌≤◌, ◌==◌, ◌&&◌, Bool, true, false, is_none, is_some, if◌then◌else◌, List, [], ◌∷◌, Option, Some, None, refl, sym, ◌∙◌, ap, subst, arith, inl, inr, ◌⊎◌}
use Rattle.std.proofs.lemmas.Bool.{cases_Bool, eq-eqb, ne_eqb, eqb-true, and_parts, and_from, not_from_false}
use Rattle.std.proofs.lemmas.Option.{none-some, same_Some}
use Rattle.std.specs.List.{list_all}
use Rattle.std.specs.Prelude.{length, nat_le}
use Rattle.ktm_world.specs.declared.recorded.Node.{Node}
use Rattle.ktm_world.specs.Changes.{is_free}
use Rattle.ktm_world.specs.FileCalls.{Whereabouts, free, at_node, reached, entered, walk, whereabouts_of, find_path}
use Rattle.ktm_world.specs.Paths.{is_name, path_of, parts_of, names_in}
use Rattle.ktm_world.specs.Tree.{Tree, IsWellFormed, root, node_at, is_directory, child_of, content_of, same_name}
use Rattle.txf_laws.specs.Elements.{IsIn}
use Rattle.ktm_world.proofs.offered.Lookups.{Rises, Rises-from, node_at-below}
use Rattle.txf_laws.proofs.offered.Elements.{find-in}
use Rattle.txf_laws.proofs.offered.Holds.{is-directory}
use Rattle.txf_laws.proofs.offered.CommitsOfOthers.{All-in}

-- ---- nodes of a tree

-- a node of a rising tree is the one at its number
pub node_at-in : (tree : Tree) → Rises tree → (node : Node) → IsIn node tree → node_at tree node.number ≡ Some node
node_at-in [] rises node there = absurd there
node_at-in (n ∷ ns) rises node (inl e) = rw (eq-eqb n.number node.number (ap (λ (m : Node). m.number) e)) (ap Some e)
node_at-in (n ∷ ns) rises node (inr there) = elim (cases_Bool (n.number == node.number)) [
  | inl same ↦ absurd (none-some node (sym (node_at-below ns n.number node.number rises.0 (omega (arith, eqb-true _ _ same))) ∙ node_at-in ns rises.1 node there))
  | inr other ↦ rw other (node_at-in ns rises.1 node there)
]

-- ---- where a path leads

-- a free name of a directory that is there, or a node
abbrev pub Leads : Tree → Whereabouts → Type 0
Leads tree (free directory name) = (is_directory tree directory ≡ true) × (is_name name ≡ true) × (is_free tree directory name ≡ true)
Leads tree (at_node node) = (node_at tree node.number ≡ Some node) × (2 ≤ node.number)
Leads tree _ = Unit {0}

node-leads : (tree : Tree) → IsWellFormed tree → (directory : ℕ) (name : List ℕ) (node : Node) → child_of tree directory name ≡ Some node → Leads tree (at_node node)
node-leads tree formed directory name node found =
    let there = (find-in (λ (n : Node). n.parent == directory && same_name n.name name) tree node found).0 in
    (node_at-in tree (Rises-from tree formed.rise) node there, All-in (λ (n : Node). 2 ≤ n.number) tree formed.numbers node there)

walk-leads : (tree : Tree) → IsWellFormed tree → (names : List (List ℕ)) → list_all is_name names ≡ true → (from : Option ℕ) → ((directory : ℕ) → from ≡ Some directory → is_directory tree directory ≡ true) → Leads tree (walk tree from names)
walk-leads tree formed names good None from = elim names as (λ ns. Leads tree (walk tree None ns)) [ [] ↦ tt | ◌∷◌ n (ns → h) ↦ tt ]
walk-leads tree formed [] good (Some directory) from = tt
walk-leads tree formed (name ∷ []) good (Some directory) from = go (child_of tree directory name) refl
  where
    go : (child : Option Node) → child_of tree directory name ≡ child → Leads tree (reached child directory name)
    go None none = (from directory refl, (and_parts (is_name name) true good).0, ap is_none none)
    go (Some node) found = node-leads tree formed directory name node found
walk-leads tree formed (name ∷ next ∷ names) good (Some directory) from =
    walk-leads tree formed (next ∷ names) (and_parts (is_name name) (list_all is_name (next ∷ names)) good).1 (entered (child_of tree directory name)) (go (child_of tree directory name) refl)
  where
    inside : (node : Node) → child_of tree directory name ≡ Some node → (b : Bool) → is_some node.content ≡ b → (d : ℕ) → (if b then None else Some node.number) ≡ Some d → is_directory tree d ≡ true
    inside node found true file d e = absurd (none-some d e)
    inside node found false dir d e = subst (λ k. is_directory tree k ≡ true) (same_Some node.number d e) (is-directory tree node.number node (node-leads tree formed directory name node found).0 dir)

    go : (child : Option Node) → child_of tree directory name ≡ child → (d : ℕ) → entered child ≡ Some d → is_directory tree d ≡ true
    go None none d e = absurd (none-some d e)
    go (Some node) found d e = inside node found (is_some node.content) refl d e

-- the root is a directory
root-directory : (tree : Tree) → IsWellFormed tree → is_directory tree root ≡ true
root-directory tree formed = and_from _ _ refl (not_from_false _ (ap (λ o. is_some (content_of o)) (no-root tree (λ node there. All-in (λ (n : Node). 2 ≤ n.number) tree formed.numbers node there))))
  where
    no-root : (tree : Tree) → ((node : Node) → IsIn node tree → 2 ≤ node.number) → node_at tree root ≡ None
    no-root [] least = refl
    no-root (n ∷ ns) least = rw (ne_eqb n.number root (λ e. omega (arith, least n (inl refl), e))) (no-root ns (λ node there. least node (inr there)))

names-good : (parts : Option (List (List ℕ))) (names : List (List ℕ)) → names_in parts ≡ Some names → list_all is_name names ≡ true
names-good None names e = absurd (none-some names e)
names-good (Some parts) names e = go (cases_Bool (nat_le (length parts) 32 && list_all is_name parts))
  where
    go : ((nat_le (length parts) 32 && list_all is_name parts) ≡ true) ⊎ ((nat_le (length parts) 32 && list_all is_name parts) ≡ false) → list_all is_name names ≡ true
    go (inl is) = subst (λ ns. list_all is_name ns ≡ true) (same_Some parts names (rw is at e)) (and_parts (nat_le (length parts) 32) (list_all is_name parts) is).1
    go (inr none) = absurd (none-some names (rw none at e))

pub find_path-leads : (tree : Tree) → IsWellFormed tree → (path : List ℕ) → Leads tree (find_path tree path)
unfolding find_path path_of
find_path-leads tree formed path = go (names_in (parts_of path)) refl
  where
    go : (names : Option (List (List ℕ))) → names_in (parts_of path) ≡ names → Leads tree (whereabouts_of tree names)
    go None none = tt
    go (Some names) found = walk-leads tree formed names (names-good (parts_of path) names found) (Some root) (λ d e. subst (λ k. is_directory tree k ≡ true) (same_Some root d e) (root-directory tree formed))
