use Rattle.std.proofs.Common.{arith, length-set, true}
use Rattle.ktm_store.specs.Marks.{MarksState}
use Rattle.ktm_store.proofs.Free.{held-one}
use Rattle.ktm_store.proofs.marks.Marks.hold.Goals as goal

pub freed-requires : goal.freed-requires
freed-requires c = rw (← c.self.view_is, ← c.deref.ensures.value) at c.requires

pub overflow_sub-self : goal.overflow_sub-self
overflow_sub-self c =
    let freed = rw c.deref.ensures.value at c.freed.ensures in
    omega (arith, freed, c.self.invariant.1)

pub invariant_of-self : goal.invariant_of-self
invariant_of-self c =
    let freed = rw c.deref.ensures.value at c.freed.ensures in
    let long = length-set c.self.inside.held.items c.args.page true in (
      record { few = omega (arith, long, c.self.invariant.0.few); within = omega (arith, long, c.self.invariant.0.within) },
      omega (arith, freed, c.self.invariant.1),
    )

pub returns : goal.returns
returns c =
    let marks : MarksState = record { held = c.self.inside.held.items; next = c.self.inside.next } in
    let below = rw (← c.self.view_is) at c.requires in
    rw (← c.self.view_is) (held-one marks c.args.page below)
