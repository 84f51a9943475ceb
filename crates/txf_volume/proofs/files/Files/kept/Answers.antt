use Rattle.std.proofs.Common.{true, false, sym, ◌∙◌}
use Rattle.txf_volume.specs.contracts.files.Files.{the_view}
use Rattle.txf_volume.proofs.Counted.{kept-is}
use Rattle.txf_volume.proofs.files.Files.kept.Goals as goal

pub returns-then-is_pinned-clause-kept : goal.returns-then-is_pinned-clause-kept
returns-then-is_pinned-clause-kept c =
    rw (← c.self.view_is)
    (c.loss.ensures.loss _ c.size.ensures
    ∙ sym (kept-is (the_view c.self.inside) c.args.change.now c.node_of-file.result c.version.result c.node_of-file.ensures c.version.ensures true (c.if-is_pinned.ensures)))

pub returns-else-is_pinned-clause-kept : goal.returns-else-is_pinned-clause-kept
returns-else-is_pinned-clause-kept c =
    rw (← c.self.view_is) (sym (kept-is (the_view c.self.inside) c.args.change.now c.node_of-file.result c.version.result c.node_of-file.ensures c.version.ensures false (c.if-is_pinned.ensures)))
