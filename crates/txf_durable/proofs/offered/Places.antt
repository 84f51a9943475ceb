-- The places of nodes that are seen.
use Rattle.std.proofs.Common.{◌≡◌, ℕ, ◌≤◌, true, length, List, Option, Some, None, refl, sym, ◌∙◌, ap, arith}
use Rattle.std.proofs.lemmas.Bool.{true≢false}
use Rattle.std.proofs.lemmas.List.{length-map}
use Rattle.std.proofs.lemmas.Option.{same_Some, none-some}
use Rattle.std.specs.List.{list_all}
use Rattle.std.specs.Option.{option_map}
use Rattle.ktm_base.specs.declared.limits.TheConstants.{MOST_NAME_BYTES}
use Rattle.ktm_base.specs.Names.{IsName, folded_byte}
use Rattle.ktm_world.specs.declared.change.Change.{Change}
use Rattle.ktm_world.specs.declared.change.Change.TheVariants.{Make, Put, Cut, Move, Drop}
use Rattle.ktm_world.specs.declared.recorded.Node.{Node}
use Rattle.ktm_world.specs.Holds.{Place, place}
use Rattle.ktm_world.specs.Tree.{Tree, IsWellFormed, node_at}
use Rattle.ktm_world.proofs.offered.Lookups.{remade}
use Rattle.txf_overlay.specs.Nodes.{last_of}
use Rattle.txf_overlay.specs.OverlayState.{OverlayState, is_of_names, seen}
use Rattle.txf_overlay.specs.Views.{StandsOver}
use Rattle.txf_overlay.proofs.Trees.{Applies-from, at-All, is_there-some, node_at-there}
use Rattle.txf_overlay.proofs.Views.{LastIs, last-is, untouched}
use Rattle.txf_durable.specs.Places.{brought}

-- a node is where its last change brought it
where-is : (t' : Tree) (node : ℕ) (c : Change) → LastIs t' node c → option_map (λ (n : Node). place n.parent n.name) (node_at t' node) ≡ brought c
where-is t' node (Make n parent kind name) last =
    ap (option_map (λ (x : Node). place x.parent x.name)) (last.left ∙ node_at-there last.tree (Make n parent kind name) last.applies node last.of)
where-is t' node (Put n offset contents) last = absurd (true≢false (sym last.names))
where-is t' node (Cut n size pages) last = absurd (true≢false (sym last.names))
where-is t' node (Move n parent name) last =
    let parts = Applies-from last.tree (Move n parent name) last.applies in
    let before = is_there-some last.tree n parts.0 parts.1 in
    ap (option_map (λ (x : Node). place x.parent x.name))
    (last.left ∙ node_at-there last.tree (Move n parent name) last.applies node last.of ∙ ap (λ m. remade (Move n parent name) (node_at last.tree m)) (sym last.of) ∙ ap (remade (Move n parent name)) before.1)
where-is t' node (Drop n) last = ap (option_map (λ (x : Node). place x.parent x.name)) (last.left ∙ node_at-there last.tree (Drop n) last.applies node last.of)

-- where it is, by the changes that are shown
pub place-by-last : (tree : Tree) (o : OverlayState) (node : ℕ) (c : Change) → StandsOver tree o → list_all is_of_names o.names ≡ true → Some c ≡ last_of o.names node
    → option_map (λ (n : Node). place n.parent n.name) (node_at (seen tree o) node) ≡ brought c
place-by-last tree o node c stands only last = where-is (seen tree o) node c (last-is o.names tree node c only stands.applies (sym last))

pub seen-untouched : (tree : Tree) (o : OverlayState) (node : ℕ) → StandsOver tree o → None ≡ last_of o.names node → node_at (seen tree o) node ≡ node_at tree node
seen-untouched tree o node stands none = untouched o.names tree node stands.applies (sym none)

pub short-place : (tree : Tree) (node directory : ℕ) (name : List ℕ) → IsWellFormed tree → Some (place directory name) ≡ option_map (λ (n : Node). place n.parent n.name) (node_at tree node) → length name ≤ MOST_NAME_BYTES
short-place tree node directory name formed is = go (node_at tree node) refl is
  where
    go : (found : Option Node) → node_at tree node ≡ found → Some (place directory name) ≡ option_map (λ (n : Node). place n.parent n.name) found → length name ≤ MOST_NAME_BYTES
    go None at e = absurd (none-some (place directory name) (sym e))
    go (Some x) at e =
        let few = (at-All (λ n. IsName n.name) tree formed.names node x at).few in
        let same = ap (λ (p : Place). length p.name) (same_Some (place directory name) (place x.parent x.name) e) in
        let mine = length-map name folded_byte in
        let its = length-map x.name folded_byte in
        omega arith
