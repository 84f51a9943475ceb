use Rattle.std.proofs.Common.{arith, subst, sym, ◌∙◌}
use Rattle.ktm_world.specs.Tree.{root}
use Rattle.txf_calls.specs.Leads.{Leads}
use Rattle.txf_calls.specs.declared.along.Whereabouts.TheVariants.{NoWay}
use Rattle.txf_calls.proofs.Ways.{leads-none, leads-node, leads-free}
use Rattle.txf_calls.proofs.along.find.Goals as goal

pub returns-in_default : goal.returns-in_default
returns-in_default g c =
    subst (Leads NoWay) (sym (leads-none (g.V.View.tree c.args.view.now) root _ c.args.path.now (omega (arith, c.if-names-eq0.false, c.len-names.ensures.value)) (sym c.way.ensures ∙ c.in_default.is))) tt

pub returns-in-Some-child : goal.returns-in-Some-child
returns-in-Some-child g c =
    leads-node (g.V.View.tree c.args.view.now) c.args.path.now _ c.name-name.result c.in-Some.directory c.child.result c.name-name.ensures.value
    (omega (arith, c.if-names-eq0.false, c.len-names.ensures.value)) (sym c.way.ensures ∙ c.in-Some.is) c.child.ensures c.in-Some-child.node c.in-Some-child.is

pub returns-in-None : goal.returns-in-None
returns-in-None g c =
    leads-free (g.V.View.tree c.args.view.now) c.args.path.now _ c.name-name.result c.in-Some.directory c.child.result c.name-name.ensures.value
    (omega (arith, c.if-names-eq0.false, c.len-names.ensures.value)) (sym c.way.ensures ∙ c.in-Some.is) c.child.ensures c.in-None.is
