use Rattle.std.proofs.Common.{Ok, ap, arith}
use Rattle.std.proofs.lemmas.List.{nil_from_length}
use Rattle.txf_saved.proofs.Steps.{goes_down, keeps, must_apply, way_made}
use Rattle.txf_saved.proofs.making.make_way.Goals as goal

pub down-init : goal.down-init
down-init c = λ nodes number awaits. (awaits, λ n there. there)

pub down-preserved : goal.down-preserved
down-preserved c = λ nodes number awaits.
    let (before, kept) = c.down.invariant nodes number awaits in
    let (applies, tree, next) = c.in_ok-make_node.ensures.made (ap Ok c.if-not-branch.false) in (
      goes_down nodes number c.down.files c.down.way.items c.pop.new.self.items c.in-Some.node c.in-Some.ensures.items before c.make_node.new.files applies tree next,
      λ n there. keeps nodes number c.down.files c.down.way.items c.pop.new.self.items c.in-Some.node c.in-Some.ensures.items before c.make_node.new.files applies tree next n (kept n there),
    )

pub returns-then-not-branch-clause-not_made : goal.returns-then-not-branch-clause-not_made
returns-then-not-branch-clause-not_made c = λ is nodes number awaits.
    let (before, kept) = c.down.invariant nodes number awaits in
    must_apply nodes number c.down.files c.down.way.items c.pop.new.self.items c.in-Some.node c.in-Some.ensures.items before
    (λ name. (c.law_of_paths.ensures.0 name).1) c.law_of_forms.ensures (c.in_ok-make_node.ensures.not_made (ap Ok c.if-not-branch.true))

pub returns-clause-made : goal.returns-clause-made
returns-clause-made c = λ is nodes number awaits.
    let (last, kept) = c.down.invariant nodes number awaits in
    way_made nodes number c.args.files.now c.down.files c.down.way.items (nil_from_length c.down.way.items (omega (arith, c.in_default.ensures.cases.0, c.down.way.ok.0))) last kept
