use Rattle.std.proofs.Common.{◌∷◌, [], ◌∙◌, ap}
use Rattle.txf_opens.specs.Acts.{act_of}
use Rattle.txf_overlay.specs.OverlayState.{seen}
use Rattle.txf_tree.specs.TreeState.{tree_of}
use Rattle.txf_durable.proofs.HeldMore.{holds-one}
use Rattle.txf_durable.proofs.waiting.hold_change.Goals as goal

pub returns-clause-holds : goal.returns-clause-holds
returns-clause-holds c =
    let held = c.held_by.ensures in
    holds-one (seen (tree_of c.args.tree.now) c.args.overlay.now) c.args.change.now (act_of c.act_over-act.result) c.held_by.result c.args.transaction c.args.reserve.now c.hold.new.self
    c.requires.applies c.act_over-act.ensures.act (held.node ∙ ap (λ n. n ∷ []) c.node_of.ensures) held.places held.dropped held.moves c.hold.ensures.holds
