use Rattle.std.proofs.Common.{sym, subst}
use Rattle.txf_tree.specs.TreeState.{tree_of}
use Rattle.ktm_waiting.specs.Waiting.{AreHeld}
use Rattle.ktm_waiting.proofs.offered.Reserving.{held-booted}
use Rattle.ktm_replayed.proofs.replayed.Replayed.start.Goals as goal

pub forget_ready-requires : goal.forget_ready-requires
forget_ready-requires c = c.self.invariant.kept.each

pub invariant_of-self : goal.invariant_of-self
invariant_of-self c =
    let tree = tree_of c.self.inside.files.tree in
    let ts = c.self.inside.transactions.transactions in
    let r' = c.release_ready.new.waiting in
    subst (AreHeld r' tree) (sym c.forget_ready.ensures) (held-booted c.self.inside.waiting tree ts c.self.invariant r' (rw c.as_slice.ensures at c.release_ready.ensures))
