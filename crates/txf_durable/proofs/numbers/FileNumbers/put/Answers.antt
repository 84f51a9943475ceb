use Rattle.std.proofs.Common.{◌∙◌, sym, subst, true}
use Rattle.txf_durable.specs.Numbers.{AreNumbersRising}
use Rattle.txf_durable.proofs.Rising.{found, missing}
use Rattle.txf_durable.proofs.numbers.FileNumbers.put.Goals as goal

pub invariant_of-self : goal.invariant_of-self
invariant_of-self c =
    let is = missing c.self.inside.items.items c.deref.result.now c.args.number c.in-Err.place c.deref.ensures.value c.self.invariant c.in-Err.ensures.position in
    subst AreNumbersRising (sym c.insert_reserved.ensures.items) (is.rising true)

pub returns-in-Err-clause-numbers : goal.returns-in-Err-clause-numbers
returns-in-Err-clause-numbers c =
    let is = missing c.self.inside.items.items c.deref.result.now c.args.number c.in-Err.place c.deref.ensures.value c.self.invariant c.in-Err.ensures.position in
    rw (← c.self.view_is) (c.insert_reserved.ensures.items ∙ sym is.put)

pub returns-in_default-clause-numbers : goal.returns-in_default-clause-numbers
returns-in_default-clause-numbers c =
    let is = found c.self.inside.items.items c.deref.result.now c.args.number c.in_default.field-0 c.deref.ensures.value c.self.invariant c.in_default.ensures.position in
    rw (← c.self.view_is) (sym is.put)
