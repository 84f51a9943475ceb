-- The way up to a node that is there, and down again.
use Rattle.std.proofs.Common.{◌≡◌, ℕ, ◌+◌, suc, ◌==◌, ◌||◌, not, Bool, true, false, is_some, List, [], ◌∷◌, ◌++◌, length, Some, None, refl, sym, ◌∙◌, ap, subst}
use Rattle.std.specs.List.{list_any}
use Rattle.std.specs.Prelude.{reverse}
use Rattle.std.proofs.lemmas.List.{map-append, reverse-append}
use Rattle.std.proofs.lemmas.Bool.{ne_eqb, and_parts, or_parts, true≢false}
use Rattle.std.proofs.lemmas.Option.{same_Some}
use Rattle.ktm_snapshot.specs.declared.node.ShownNode.{ShownNode}
use Rattle.ktm_snapshot.specs.Shown.{node_of}
use Rattle.ktm_world.specs.declared.recorded.Node.{Node}
use Rattle.ktm_world.specs.Tree.{Tree, is_at_or_below, is_file, is_there, node_at, root, way_up, with_node}
use Rattle.txf_laws.proofs.offered.ChangeTests.{Good-from, at-All, is_there-none, number-at}
use Rattle.txf_saved.proofs.Parts.{there-with_node}
use Rattle.txf_saved.specs.Making.{way_of, IsWay}
use Rattle.txf_saved.specs.Saved.{AreFiles}

-- the last of a way comes first
pub last_first : (way : List ShownNode) (x : ShownNode) → reverse (way_of (way ++ x ∷ [])) ≡ node_of x ∷ reverse (way_of way)
last_first way x = ap reverse (map-append node_of way (x ∷ [])) ∙ reverse-append (way_of way) (node_of x ∷ [])

-- ---- up

-- does the way up come to the root within so many nodes
abbrev pub comes_up : Tree → ℕ → ℕ → Bool
comes_up nodes n most = list_any (λ m. m == root) (way_up nodes n most)

-- where the nodes are files, this one is there, and its way comes to the root
abbrev pub Rest : Tree → ℕ → ℕ → Type 0
Rest nodes n most = AreFiles nodes → (is_there nodes n ≡ true) × (comes_up nodes n most ≡ true)

pub rest-begins : (nodes : Tree) (n : ℕ) (x : Node) → node_at nodes n ≡ Some x → Rest nodes n (length nodes + 1)
rest-begins nodes n x known files = (
  rw known (go (n == root)),
  subst (λ m. is_at_or_below nodes m root ≡ true) (number-at nodes n x known) (at-All (λ node. is_at_or_below nodes node.number root ≡ true) nodes files.formed.reach n x known),
)
  where
    go : (b : Bool) → (b || true) ≡ true
    go true = refl
    go false = refl

pub rest-next : (nodes : Tree) (n most left : ℕ) (x : Node) → most ≡ suc left → (n == root) ≡ false → node_at nodes n ≡ Some x → Rest nodes n most → Rest nodes x.parent left
rest-next nodes n most left x more other known rest files =
    let here : comes_up nodes n most ≡ comes_up nodes x.parent left = rw (more, other, known) refl in
    ((and_parts (is_there nodes x.parent) (not (is_file nodes x.parent)) ((Good-from nodes files.formed).parents n x known)).0, sym here ∙ (rest files).1)

pub rest-missing : (nodes : Tree) (n most : ℕ) → (n == root) ≡ false → node_at nodes n ≡ None → Rest nodes n most → AreFiles nodes → ⊥
rest-missing nodes n most other none rest files = true≢false (sym (rest files).0 ∙ rw (other, none) refl)

pub rest-over : (nodes : Tree) (n : ℕ) → Rest nodes n 0 → AreFiles nodes → ⊥
rest-over nodes n rest files = true≢false (sym (rest files).1)

-- ---- one further up

pub no_root : (tree : Tree) (n : ℕ) → is_there tree n ≡ false → (n == root) ≡ false
no_root tree n gone = (or_parts (n == root) (is_some (node_at tree n)) gone).0

pub climbs : (nodes tree : Tree) (number top : ℕ) (way way' : List ShownNode) (x : ShownNode) → way' ≡ way ++ x ∷ [] → is_there tree top ≡ false → node_at nodes top ≡ Some (node_of x)
    → IsWay nodes tree number top (reverse (way_of way)) → IsWay nodes tree number x.parent (reverse (way_of way'))
climbs nodes tree number top way way' x is gone found rest =
    let at : x.number ≡ top = number-at nodes top (node_of x) found in
    let ahead : IsWay nodes tree number x.parent (node_of x ∷ reverse (way_of way)) =
    (ap (node_at nodes) at ∙ found, ap (is_there tree) at ∙ gone, refl, subst (λ n. IsWay nodes tree number n (reverse (way_of way))) (sym at) rest) in
    subst (IsWay nodes tree number x.parent) (sym (ap (λ (w : List ShownNode). reverse (way_of w)) is ∙ last_first way x)) ahead

-- ---- down

module _ (nodes tree : Tree) (x : Node) (known : node_at nodes x.number ≡ Some x) (gone : is_there tree x.number ≡ false) (there : is_there tree x.parent ≡ true) where
  -- the nodes behind one that is made are still to be made
  still_way : (number top : ℕ) (ys : List Node) → is_there tree top ≡ false → IsWay nodes tree number top ys → IsWay nodes (with_node tree x) number top ys
  still_way number top [] absent way = way
  still_way number top (y ∷ ys) absent way =
      let (known', gone', in_top, rest) = way in
      let differs : (x.number == y.number) ≡ false = ne_eqb x.number y.number (λ same.
      let one : x ≡ y = same_Some x y (sym known ∙ ap (node_at nodes) same ∙ known') in
      true≢false (sym there ∙ ap (λ (n : Node). is_there tree n.parent) one ∙ ap (is_there tree) in_top ∙ absent)) in
      (known', there-with_node tree x (is_there-none tree x.number gone) y.number ∙ rw differs gone', in_top, still_way number y.number ys gone' rest)

  pub way-down : (number : ℕ) (xs : List Node) → IsWay nodes tree number x.number xs → IsWay nodes (with_node tree x) number x.number xs
  way-down number xs rest = still_way number x.number xs gone rest
