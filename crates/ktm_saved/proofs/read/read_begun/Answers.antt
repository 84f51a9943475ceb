use Rattle.ktm_saved.proofs.read.read_begun.Goals as goal
use Rattle.ktm_waiting.proofs.offered.Reserving.{held-none}
use Rattle.txf_tree.specs.TreeState.{tree_of}

pub returns : goal.returns
returns c =
    let is = rw c.in-Some.is at c.in_ok-front.ensures in
    record { begun = is.0; front = is.1; none = c.new-transactions.ensures; held = held-none c.new-waiting.result (tree_of c.in-Some.front.files.tree) c.new-waiting.ensures }
