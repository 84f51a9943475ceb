use Rattle.std.proofs.Common.{◌+◌, arith, refl, sym, ◌∙◌, length-set, true}
use Rattle.ktm_store.proofs.Free.{found-in, free-not-found, took}
use Rattle.ktm_store.proofs.marks.Marks.take.Goals as goal

pub returns-in_err-free-clause-none : goal.returns-in_err-free-clause-none
returns-in_err-free-clause-none c =
    let held = c.self.inside.held.items in
    let next = c.self.inside.next in
    let found = found-in held c.deref.result.now next c.first_free.result c.deref.ensures.value c.first_free.ensures in
    λ none. (rw (← c.self.view_is) (free-not-found held next c.self.invariant.0.within (sym found ∙ c.in_err-free.was)), refl)

pub overflow_sub-self : goal.overflow_sub-self
overflow_sub-self c =
    let held = c.self.inside.held.items in
    let next = c.self.inside.next in
    let found = found-in held c.deref.result.now next c.first_free.result c.deref.ensures.value c.first_free.ensures in
    let one = took held next c.in_ok-free.free c.self.invariant.0.within (sym found ∙ c.in_ok-free.was) in
    omega (arith, one.fewer, c.self.invariant.1)

pub invariant_of-self : goal.invariant_of-self
invariant_of-self c =
    let held = c.self.inside.held.items in
    let next = c.self.inside.next in
    let found = found-in held c.deref.result.now next c.first_free.result c.deref.ensures.value c.first_free.ensures in
    let one = took held next c.in_ok-free.free c.self.invariant.0.within (sym found ∙ c.in_ok-free.was) in
    let long = length-set held (next + c.in_ok-free.free) true in (
      record { few = omega (arith, long, c.self.invariant.0.few); within = omega (arith, long, one.within) },
      omega (arith, one.fewer, c.self.invariant.1),
    )

pub returns-clause-some : goal.returns-clause-some
returns-clause-some c =
    let held = c.self.inside.held.items in
    let next = c.self.inside.next in
    let found = found-in held c.deref.result.now next c.first_free.result c.deref.ensures.value c.first_free.ensures in
    rw (← c.self.view_is) (took held next c.in_ok-free.free c.self.invariant.0.within (sym found ∙ c.in_ok-free.was))
