use Rattle.std.proofs.Common.{◌+◌, ◌∙◌, sym, ap}
use Rattle.ktm_world.specs.Durable.{is_within_limits}
use Rattle.ktm_replayed.proofs.Taking.{event-tested, limits-counted}
use Rattle.ktm_replayed.proofs.replayed.Replayed.apply.Goals as goal

pub returns-clause-applies : goal.returns-clause-applies
returns-clause-applies c =
    let s = c.args.self.now.state in
    let taken = c.in_ok-take.ensures in
    c.is_within.ensures ∙ ap is_within_limits c.count.ensures ∙ limits-counted c.take.new.self.state (c.take.new.self.state.events + 1) ∙ ap is_within_limits (taken.after c.if-not-branch.false)
    ∙ event-tested s c.args.event (taken.fact c.if-not-branch.false) (sym c.has_events_left.ensures ∙ c.if-not-has_events_left.false)
