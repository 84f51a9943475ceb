use Rattle.std.proofs.Common.{◌≡◌, length, vec_len, rules, arith}
use Rattle.ktm_notify.proofs.Marking.{queues-are, within}
use Rattle.ktm_notify.proofs.Sending.{queues-sent, sent-now}
use Rattle.ktm_notify.proofs.queues.Queues.send.Goals as goal

pub index-ends-requires : goal.index-ends-requires
index-ends-requires c =
    let count : vec_len c.self.inside.ends ≡ length c.self.inside.ends.items = search rules in
    omega (arith, count, within c.self.inside.slots.items c.self.inside.ends.items c.args.manager (rw (← c.self.view_is) at c.requires.there))

pub index_mut-requires : goal.index_mut-requires
index_mut-requires c =
    let count : vec_len c.self.inside.ends ≡ length c.self.inside.ends.items = search rules in
    omega (arith, count, within c.self.inside.slots.items c.self.inside.ends.items c.args.manager (rw (← c.self.view_is) at c.requires.there))

pub invariant_of-self : goal.invariant_of-self
invariant_of-self c =
    let inside = within c.self.inside.slots.items c.self.inside.ends.items c.args.manager (rw (← c.self.view_is) at c.requires.there) in
    let sent = sent-now _ _ c.args.manager c.push_spare-key.result c.args.note _ c.self.invariant.0 inside c.push_spare-key.ensures.absent c.index-ends.ensures in
    rw (c.link.ensures.items, c.push_spare-key.ensures.items, c.unwrap_or.ensures)
    (queues-are _ _ _ c.args.manager _ c.self.invariant.0 sent.altered sent.distinct sent.joined sent.sent, omega (arith, c.self.invariant.1, c.push_spare-key.ensures.spare, c.link.ensures.list.1))

pub returns-clause-queues : goal.returns-clause-queues
returns-clause-queues c =
    let inside = within c.self.inside.slots.items c.self.inside.ends.items c.args.manager (rw (← c.self.view_is) at c.requires.there) in
    let sent = sent-now _ _ c.args.manager c.push_spare-key.result c.args.note _ c.self.invariant.0 inside c.push_spare-key.ensures.absent c.index-ends.ensures in
    rw (← c.self.view_is, c.link.ensures.items, c.push_spare-key.ensures.items, c.unwrap_or.ensures)
    (queues-sent _ _ _ _ _ inside sent)

pub returns-clause-waiting : goal.returns-clause-waiting
returns-clause-waiting c =
    let inside = within c.self.inside.slots.items c.self.inside.ends.items c.args.manager (rw (← c.self.view_is) at c.requires.there) in
    let sent = sent-now _ _ c.args.manager c.push_spare-key.result c.args.note _ c.self.invariant.0 inside c.push_spare-key.ensures.absent c.index-ends.ensures in
    rw (← c.self.view_is, c.link.ensures.items, c.push_spare-key.ensures.items) sent.longer
