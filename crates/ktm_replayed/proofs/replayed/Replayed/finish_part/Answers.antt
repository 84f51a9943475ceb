use Rattle.std.proofs.Common.{◌≡◌, true, sym, subst}
use Rattle.ktm_world.specs.Durable.{has_undone, stage_passes}
use Rattle.txf_tree.specs.TreeState.{tree_of}
use Rattle.ktm_replayed.specs.Replayed.{ReplayedState}
use Rattle.ktm_waiting.specs.Waiting.{AreHeld}
use Rattle.ktm_waiting.proofs.offered.Reserving.{held-finished, undone-decided}
use Rattle.ktm_replayed.proofs.replayed.Replayed.finish_part.Goals as goal

pub finish-requires-clause-kept : goal.finish-requires-clause-kept
finish-requires-clause-kept c = c.self.invariant.kept.each

pub finish-requires-clause-decided : goal.finish-requires-clause-decided
finish-requires-clause-decided c =
    let undone = subst (λ (r : ReplayedState). stage_passes r.state c.args.transaction (has_undone c.args.done) ≡ true) (sym c.self.view_is) c.requires in
    undone-decided c.self.inside.waiting (tree_of c.self.inside.files.tree) c.self.inside.transactions.transactions c.self.invariant c.args.done c.args.transaction undone

pub invariant_of-self : goal.invariant_of-self
invariant_of-self c =
    let tree = tree_of c.self.inside.files.tree in
    let undone = subst (λ (r : ReplayedState). stage_passes r.state c.args.transaction (has_undone c.args.done) ≡ true) (sym c.self.view_is) c.requires in
    subst (AreHeld c.self.inside.waiting tree) (sym c.finish.ensures) (held-finished c.self.inside.waiting tree c.self.inside.transactions.transactions c.self.invariant c.args.done c.args.transaction undone)
