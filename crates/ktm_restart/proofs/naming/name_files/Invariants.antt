use Rattle.std.proofs.Common.{◌≡◌, length}
use Rattle.ktm_owners.specs.Owners.{AreNamedByFile}
use Rattle.ktm_owners.proofs.offered.Turns.{AreNamedSoFar}
use Rattle.txf_tree.specs.TreeState.{tree_of}
use Rattle.ktm_restart.proofs.naming.name_files.Given as goal

abbrev pub invariant-nodes : goal.invariant-nodes
invariant-nodes l = record {
  named : AreNamedSoFar AreNamedByFile (tree_of l.tree) l.nodes l.initial.owners.named l.owners.named;
  owners : l.owners.owners ≡ l.initial.owners.owners;
}

abbrev pub decreases-nodes : goal.decreases-nodes
decreases-nodes l = length l.nodes
