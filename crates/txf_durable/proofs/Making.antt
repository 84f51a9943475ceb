-- Lemmas on a node that is made while a log is read.
use Rattle.std.proofs.Common.{◌≡◌, ℕ, ◌<◌, ◌≤◌, ◌^◌, ◌&&◌, List, not, true, nat_le, nat_lt, sym, ap, ◌∙◌, arith, subst}
use Rattle.std.proofs.lemmas.Bool.{and_parts, ltb-true}
use Rattle.ktm_world.specs.declared.change.Change.{Change}
use Rattle.ktm_world.specs.declared.change.Change.TheVariants.{Make}
use Rattle.ktm_world.specs.declared.change.NodeKind.{NodeKind}
use Rattle.ktm_world.specs.Changes.{applies, changed, is_free, is_node_number}
use Rattle.ktm_world.specs.Paths.{is_name}
use Rattle.ktm_world.specs.Tree.{Tree, IsWellFormed, is_directory, is_there}
use Rattle.txf_laws.specs.Formed.{FormedLaw}
use Rattle.txf_tree.specs.TreeState.{TreeState, room_of, tree_of, versions_of, IsApplied}
use Rattle.txf_durable.specs.State.{tree_units, AreSound, IsMade}
use Rattle.txf_durable.proofs.Units.{units-made}

-- the number of a node that can be made is below 2^63
pub number-few : (tree : Tree) (node parent : ℕ) (kind : NodeKind) (name : List ℕ) → applies tree (Make node parent kind name) ≡ true → node < 2 ^ 63
number-few tree node parent kind name is =
    let named = and_parts (((is_node_number node && not (is_there tree node)) && is_directory tree parent) && is_name name) (is_free tree parent name) is in
    let placed = and_parts ((is_node_number node && not (is_there tree node)) && is_directory tree parent) (is_name name) named.0 in
    let new = and_parts (is_node_number node && not (is_there tree node)) (is_directory tree parent) placed.0 in
    let number = and_parts (is_node_number node) (not (is_there tree node)) new.0 in
    ltb-true node (2 ^ 63) (and_parts (nat_le 2 node) (nat_lt node (2 ^ 63)) number.0).1

-- the files are sound where they are the same
pub sound-same : (t t' : TreeState) (many : ℕ) → t'.nodes ≡ t.nodes → AreSound t many → AreSound t' many
sound-same t t' many nodes sound =
    record {
      counted = record {
        versions = ap (λ ns. versions_of (record { nodes = ns; spare = 0 })) nodes ∙ sound.counted.versions;
        units = sound.counted.units ∙ sym (ap (λ ns. tree_units (tree_of (record { nodes = ns; spare = 0 }))) nodes);
      };
      formed = subst (λ ns. IsWellFormed (tree_of (record { nodes = ns; spare = 0 }))) (sym nodes) sound.formed;
    }

-- and where a node was made, which has no units
pub sound-made : FormedLaw → (t t' : TreeState) (node parent : ℕ) (kind : NodeKind) (name : List ℕ) (many : ℕ) → applies (tree_of t) (Make node parent kind name) ≡ true
    → IsApplied t t' (Make node parent kind name) → AreSound t many → AreSound t' many
sound-made law t t' node parent kind name many is made sound =
    record {
      counted = record {
        versions = made.versions ∙ sound.counted.versions;
        units = sound.counted.units ∙ sym (ap tree_units made.tree ∙ units-made (tree_of t) node parent kind name);
      };
      formed = subst IsWellFormed (sym made.tree) (law.0 (tree_of t) (Make node parent kind name) sound.formed is);
    }

-- a change that is made behind memory was taken
pub made-behind : (t t₁ t' : TreeState) (c : Change) → t₁.nodes ≡ t.nodes → t.spare ≤ t₁.spare → IsApplied t₁ t' c → IsMade t t' c
made-behind t t₁ t' c nodes grows applied =
    record {
      tree = applied.tree ∙ ap (λ ns. changed (tree_of (record { nodes = ns; spare = 0 })) c) nodes;
      rooms = λ file stays.
          let room = ap (λ ns. room_of (record { nodes = ns; spare = 0 }) file) nodes in
          let kept = applied.rooms file stays in
          omega (arith, room, kept);
      spare = omega (arith, grows, applied.spare);
    }
