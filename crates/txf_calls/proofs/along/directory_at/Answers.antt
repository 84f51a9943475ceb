use Rattle.std.proofs.Common.{sym, ◌∙◌, ap}
use Rattle.ktm_world.specs.Tree.{root}
use Rattle.txf_calls.specs.Leads.{way}
use Rattle.txf_calls.proofs.Ways.{directory-at, names-all}
use Rattle.txf_calls.proofs.along.directory_at.Goals as goal

pub returns : goal.returns
returns g c =
    c.way.ensures ∙ ap (way (g.V.View.tree c.args.view.now) root) (names-all c.args.path.now _ c.len.ensures.value) ∙ sym (directory-at (g.V.View.tree c.args.view.now) c.args.path.now)
