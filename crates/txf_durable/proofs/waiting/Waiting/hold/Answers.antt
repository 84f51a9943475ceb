use Rattle.std.proofs.lemmas.Result.{on_ok_weaker}
use Rattle.txf_tree.specs.TreeState.{tree_of}
use Rattle.txf_durable.proofs.HeldMore.{holds-alone}
use Rattle.txf_durable.proofs.waiting.Waiting.hold.Goals as goal

pub returns-clause-ok : goal.returns-clause-ok
returns-clause-ok c =
    rw (← c.self.view_is, ← c.tree.ensures)
    (on_ok_weaker c.hold_changes.result (λ held.
    holds-alone (tree_of c.tree.result.now) c.args.changes.now c.args.transaction c.self.inside.reserve c.hold_changes.new.reserve (rw (← c.self.view_is) at c.requires.none) held)
    c.hold_changes.ensures.holds)
