use Rattle.std.proofs.Common.{sym, subst}
use Rattle.txf_tree.specs.TreeState.{tree_of}
use Rattle.ktm_waiting.specs.Waiting.{AreHeld}
use Rattle.ktm_waiting.proofs.offered.Reserving.{held-without}
use Rattle.ktm_replayed.proofs.replayed.Replayed.undo.Goals as goal

pub forget-requires : goal.forget-requires
forget-requires c = c.self.invariant.kept.each

pub invariant_of-self : goal.invariant_of-self
invariant_of-self c =
    let tree = tree_of c.self.inside.files.tree in
    let r' = c.release.new.self in
    subst (AreHeld r' tree) (sym c.forget.ensures) (held-without c.self.inside.waiting tree c.self.inside.transactions.transactions c.self.invariant r' c.args.transaction c.release.ensures)
