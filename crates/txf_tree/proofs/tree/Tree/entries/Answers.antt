use Rattle.std.proofs.Common.{◌≡◌, ℕ, List}
use Rattle.ktm_content.specs.Places.{ContentState}
use Rattle.txf_nodes.specs.NodesState.{tree_by}
use Rattle.txf_tree.specs.Children.{Shown, entries_in, matching}
use Rattle.txf_tree.specs.TreeState.{bytes_now}
use Rattle.txf_tree.proofs.Refilling.{if_ok-at}
use Rattle.txf_tree.proofs.tree.Tree.entries.Goals as goal

pub returns : goal.returns
returns c =
    rw (← c.self.view_is)
    (if_ok-at
    (λ (bytes : ContentState → List ℕ) (entries : List Shown). entries ≡ matching c.args.pattern.now.last (entries_in (tree_by bytes c.self.inside.nodes) c.args.directory))
    bytes_now c.entries.result c.entries.ensures)
