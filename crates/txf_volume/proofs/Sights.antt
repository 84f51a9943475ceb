-- The names that callers see of the files in memory.
use Rattle.std.proofs.Common.{◌≡◌, ℕ, ◌<◌, ◌==◌, ◌&&◌, Bool, find, is_some, List, [], ◌∷◌, Option, Some, None, Bor, IfSome, refl, sym, ◌∙◌, ap, subst, arith, inl, inr}
use Rattle.std.proofs.lemmas.Bool.{cases_Bool, eq-eqb, eqb-true, ne_eqb}
use Rattle.std.proofs.lemmas.Option.{same_Some, none-some}
use Rattle.std.specs.Option.{option_copied, option_map}
use Rattle.ktm_base.specs.declared.id.Id.{Id}
use Rattle.ktm_world.specs.declared.recorded.Node.{Node}
use Rattle.ktm_world.specs.Changes.{changed_all}
use Rattle.ktm_world.specs.Files.{tree_seen}
use Rattle.ktm_world.specs.Tree.{Tree, IsWellFormed, child_of, has_number, node_at, same_name}
use Rattle.txf_overlay.specs.Laws.{IsOwn}
use Rattle.txf_overlay.specs.OverlayState.{OverlayState}
use Rattle.txf_overlay.specs.Sight.{sight_of}
use Rattle.txf_overlay.specs.declared.view.Seen.{Seen as Sight}
use Rattle.txf_calls.specs.Leads.{seen_of}
use Rattle.txf_calls.specs.declared.view.Seen.{Seen}
use Rattle.txf_tree.specs.TreeState.{tree_of}
use Rattle.txf_volume.specs.Held.{FilesHeld, files_of, overlay_in}
use Rattle.txf_volume.specs.Ties.{IsOver, seen_by}
use Rattle.txf_laws.specs.Elements.{IsIn}
use Rattle.txf_laws.specs.FinalChanges.{names_of}
use Rattle.ktm_world.proofs.offered.Lookups.{Above, Rises, Rises-from}
use Rattle.txf_volume.proofs.Seen.{changes_in, own_changes-held}
use Rattle.txf_volume.proofs.Steady.{names-own}

-- a transaction sees the tree with its names
pub tree-seen : (h : FilesHeld) (id : Id) (now : Option OverlayState) → overlay_in h.overlays id ≡ now → ((o : OverlayState) → now ≡ Some o → IsOwn o) → tree_seen (files_of h) (Some id) ≡ seen_by (tree_of h.tree) now
tree-seen h id now is own = ap (λ cs. changed_all (tree_of h.tree) (names_of cs)) (own_changes-held h.overlays id ∙ ap changes_in is) ∙ go now own
  where
    go : (now : Option OverlayState) → ((o : OverlayState) → now ≡ Some o → IsOwn o) → changed_all (tree_of h.tree) (names_of (changes_in now)) ≡ seen_by (tree_of h.tree) now
    go None own = refl
    go (Some o) own = ap (changed_all (tree_of h.tree)) (names-own o (own o refl))

-- ---- a node by its number

above-all : (n : ℕ) (tree : Tree) → Above n tree → (x : Node) → IsIn x tree → n < x.number
above-all n [] above x there = absurd there
above-all n (y ∷ ys) above x (inl e) = subst (λ (z : Node). n < z.number) e above.0
above-all n (y ∷ ys) above x (inr there) = above-all n ys above.1 x there

number-found : (tree : Tree) → Rises tree → (x : Node) → IsIn x tree → node_at tree x.number ≡ Some x
number-found [] rises x there = absurd there
number-found (y ∷ ys) rises x (inl e) = rw (eq-eqb y.number x.number (ap (λ (z : Node). z.number) e)) (ap Some e)
number-found (y ∷ ys) rises x (inr there) = rw (ne_eqb y.number x.number (λ e. omega (arith, above-all y.number ys rises.0 x there, e))) (number-found ys rises.1 x there)

found-in : (test : Node → Bool) (tree : Tree) (x : Node) → find test tree ≡ Some x → IsIn x tree
found-in test [] x found = absurd (none-some x found)
found-in test (y ∷ ys) x found = elim (cases_Bool (test y)) [
  | inl is ↦ inl (same_Some y x (rw is at found))
  | inr other ↦ inr (found-in test ys x (rw other at found))
]

number-of : (tree : Tree) (n : ℕ) (x : Node) → node_at tree n ≡ Some x → x.number ≡ n
number-of [] n x found = absurd (none-some x found)
number-of (y ∷ ys) n x found = elim (cases_Bool (has_number n y)) [
  | inl is ↦ ap (λ (z : Node). z.number) (sym (same_Some y x (rw is at found))) ∙ eqb-true _ _ is
  | inr other ↦ number-of ys n x (rw other at found)
]

-- a child is the node with its number
pub child-at : (tree : Tree) → IsWellFormed tree → (directory : ℕ) (name : List ℕ) (number : Option ℕ) → number ≡ option_map (λ node. node.number) (child_of tree directory name)
    → option_map seen_of (child_of tree directory name) ≡ (elim number as (λ _. Option Seen) [ None ↦ None | Some n ↦ option_map seen_of (node_at tree n) ])
child-at tree formed directory name number is = go (child_of tree directory name) refl ∙ sym (ap node is)
  where
    node : Option ℕ → Option Seen
    node None = None
    node (Some n) = option_map seen_of (node_at tree n)

    go : (found : Option Node) → child_of tree directory name ≡ found → option_map seen_of (child_of tree directory name) ≡ node (option_map (λ node. node.number) found)
    go None none = ap (option_map seen_of) none
    go (Some x) there = ap (option_map seen_of) (there ∙ sym (number-found tree (Rises-from tree formed.rise) x (found-in (λ node. node.parent == directory && same_name node.name name) tree x there)))

-- what is seen of a node, and its number
pub sight-at : (tree : Tree) (n : ℕ) (sight : Option Sight) → sight ≡ option_map sight_of (node_at tree n)
    → option_map seen_of (node_at tree n) ≡ option_map (λ (s : Sight). record { number = n; parent = s.parent; is_file = s.is_file }) sight
sight-at tree n sight is = go (node_at tree n) refl ∙ ap (option_map (λ (s : Sight). record { number = n; parent = s.parent; is_file = s.is_file })) (sym is)
  where
    go : (found : Option Node) → node_at tree n ≡ found → option_map seen_of (node_at tree n) ≡ option_map (λ (s : Sight). record { number = n; parent = s.parent; is_file = s.is_file }) (option_map sight_of (node_at tree n))
    go None none = ap (option_map seen_of) none ∙ sym (ap (λ (o : Option Node). option_map (λ (s : Sight). record { number = n; parent = s.parent; is_file = s.is_file }) (option_map sight_of o)) none)
    go (Some x) there =
        ap (option_map seen_of) there ∙ (λ i. Some (record { number = number-of tree n x there i; parent = x.parent; is_file = is_some x.content }))
        ∙ sym (ap (λ (o : Option Node). option_map (λ (s : Sight). record { number = n; parent = s.parent; is_file = s.is_file }) (option_map sight_of o)) there)

-- what is lent is in the form in which it is committed
pub own-lent : (tree : Tree) (found : Option (Bor OverlayState)) → IfSome found (λ overlay. IsOver tree overlay.now) → (o : OverlayState) → option_copied found ≡ Some o → IsOwn o
own-lent tree None over o is = absurd (none-some o is)
own-lent tree (Some overlay) over o is = subst IsOwn (same_Some overlay.now o is) over.own
