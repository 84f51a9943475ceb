use Rattle.std.proofs.Common.{◌∙◌, sym, subst}
use Rattle.txf_durable.specs.Numbers.{AreNumbersRising}
use Rattle.txf_durable.proofs.Rising.{found, missing}
use Rattle.txf_durable.proofs.numbers.FileNumbers.remove.Goals as goal

pub invariant_of-self : goal.invariant_of-self
invariant_of-self c =
    let is = found c.self.inside.items.items c.deref.result.now c.args.number c.in-Ok.place c.deref.ensures.value c.self.invariant c.in-Ok.ensures.position in
    subst AreNumbersRising (sym c.remove.ensures.items) is.rising

pub returns-in-Ok-clause-numbers : goal.returns-in-Ok-clause-numbers
returns-in-Ok-clause-numbers c =
    let is = found c.self.inside.items.items c.deref.result.now c.args.number c.in-Ok.place c.deref.ensures.value c.self.invariant c.in-Ok.ensures.position in
    rw (← c.self.view_is) (c.remove.ensures.items ∙ sym is.taken)

pub returns-in_default-clause-numbers : goal.returns-in_default-clause-numbers
returns-in_default-clause-numbers c =
    let is = missing c.self.inside.items.items c.deref.result.now c.args.number c.in_default.field-0 c.deref.ensures.value c.self.invariant c.in_default.ensures.position in
    rw (← c.self.view_is) (sym is.taken)
