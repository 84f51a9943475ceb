use Rattle.std.proofs.Common.{◌∙◌, sym, ap}
use Rattle.std.specs.List.{slice_get}
use Rattle.txf_overlay.proofs.overlay.Overlay.last_change.Goals as goal

pub returns-in-Some-clause-last : goal.returns-in-Some-clause-last
returns-in-Some-clause-last c =
    let seen = c.self.invariant.nodes.there c.args.node c.in-Some.seen c.ranges.node.fits (sym c.in-Some.ensures) in
    rw (← c.self.view_is) (c.change_at.ensures ∙ ap (λ names. slice_get names c.in-Some.seen.last) c.deref.ensures.value ∙ seen.last)
