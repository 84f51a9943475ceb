use Rattle.std.proofs.Common.{◌≡◌, false, is_some, length, vec_len, rules, sym, ap, ◌∙◌, arith}
use Rattle.ktm_links.specs.Items.{value_at}
use Rattle.ktm_notify.specs.Queues.{first_note}
use Rattle.ktm_notify.proofs.Marking.{queues-are, within}
use Rattle.ktm_notify.proofs.Sending.{first-read, note-read, none-read, nothing-taken, queues-taken, shorter, taken-now, there-read, AreBehind}
use Rattle.ktm_notify.proofs.queues.Queues.take.Goals as goal

pub index-ends-requires : goal.index-ends-requires
index-ends-requires c =
    let count : vec_len c.self.inside.ends ≡ length c.self.inside.ends.items = search rules in
    omega (arith, count, within c.self.inside.slots.items c.self.inside.ends.items c.args.manager (rw (← c.self.view_is) at c.requires))

pub returns-in_default-clause-note : goal.returns-in_default-clause-note
returns-in_default-clause-note c =
    let inside = within c.self.inside.slots.items c.self.inside.ends.items c.args.manager (rw (← c.self.view_is) at c.requires) in
    rw (← c.self.view_is) (sym (ap first_note (none-read _ _ c.args.manager _ c.self.invariant.0 inside c.index-ends.ensures c.in_default.is)))

pub returns-in_default-clause-queues : goal.returns-in_default-clause-queues
returns-in_default-clause-queues c =
    let inside = within c.self.inside.slots.items c.self.inside.ends.items c.args.manager (rw (← c.self.view_is) at c.requires) in
    rw (← c.self.view_is) (nothing-taken _ _ c.args.manager _ c.self.invariant.0 inside c.index-ends.ensures c.in_default.is)

pub unreachable-requires : goal.unreachable-requires
unreachable-requires c =
    let inside = within c.self.inside.slots.items c.self.inside.ends.items c.args.manager (rw (← c.self.view_is) at c.requires) in
    let some = there-read _ _ c.args.manager _ c.in-Some.first c.self.invariant.0 inside c.index-ends.ensures c.in-Some.is in
    let none : is_some (value_at c.self.inside.slots.items c.in-Some.first) ≡ false = ap is_some (sym c.unlink.ensures.value ∙ c.in_default-unlink.is) in
    cc

pub index_mut-requires : goal.index_mut-requires
index_mut-requires c =
    let count : vec_len c.self.inside.ends ≡ length c.self.inside.ends.items = search rules in
    omega (arith, count, within c.self.inside.slots.items c.self.inside.ends.items c.args.manager (rw (← c.self.view_is) at c.requires))

pub invariant_of-self : goal.invariant_of-self
invariant_of-self c =
    let inside = within c.self.inside.slots.items c.self.inside.ends.items c.args.manager (rw (← c.self.view_is) at c.requires) in
    let rest : AreBehind c.index-ends.result.now c.without_first.result c.in-Some-unlink.slot.next =
    record { first = c.without_first.ensures.first; more = c.without_first.ensures.more; none = c.without_first.ensures.none } in
    let taken =
    taken-now _ _ c.args.manager _ c.without_first.result c.in-Some.first c.in-Some-unlink.slot c.self.invariant.0 inside c.index-ends.ensures c.in-Some.is
    (sym c.in-Some-unlink.ensures.value) rest in
    rw c.unlink.ensures.items (queues-are _ _ _ c.args.manager _ c.self.invariant.0 taken.altered taken.distinct taken.joined taken.sent, omega (arith, c.min-self-inside.ensures, c.spare.ensures))

pub returns-clause-note : goal.returns-clause-note
returns-clause-note c =
    let inside = within c.self.inside.slots.items c.self.inside.ends.items c.args.manager (rw (← c.self.view_is) at c.requires) in
    rw (← c.self.view_is)
    (note-read _ _ c.args.manager _ c.in-Some.first c.in-Some-unlink.slot c.self.invariant.0 inside c.index-ends.ensures c.in-Some.is (sym c.in-Some-unlink.ensures.value))

pub returns-clause-queues : goal.returns-clause-queues
returns-clause-queues c =
    let inside = within c.self.inside.slots.items c.self.inside.ends.items c.args.manager (rw (← c.self.view_is) at c.requires) in
    let there = sym c.in-Some-unlink.ensures.value in
    let rest : AreBehind c.index-ends.result.now c.without_first.result c.in-Some-unlink.slot.next =
    record { first = c.without_first.ensures.first; more = c.without_first.ensures.more; none = c.without_first.ensures.none } in
    let taken =
    taken-now _ _ c.args.manager _ c.without_first.result c.in-Some.first c.in-Some-unlink.slot c.self.invariant.0 inside c.index-ends.ensures c.in-Some.is there rest in
    rw (← c.self.view_is, c.unlink.ensures.items)
    (queues-taken _ _ c.args.manager _ c.in-Some.first c.in-Some-unlink.slot c.self.invariant.0 inside
    (first-read _ _ c.args.manager _ c.in-Some.first c.in-Some-unlink.slot c.self.invariant.0 inside c.index-ends.ensures c.in-Some.is there) taken)

pub returns-clause-waiting : goal.returns-clause-waiting
returns-clause-waiting c =
    let inside = within c.self.inside.slots.items c.self.inside.ends.items c.args.manager (rw (← c.self.view_is) at c.requires) in
    let some = there-read _ _ c.args.manager _ c.in-Some.first c.self.invariant.0 inside c.index-ends.ensures c.in-Some.is in
    rw (← c.self.view_is, c.unlink.ensures.items) (shorter _ c.in-Some.first some)
