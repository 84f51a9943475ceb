use Rattle.std.proofs.Common.{sym, ◌∙◌}
use Rattle.std.proofs.lemmas.Bool.{and_left}
use Rattle.ktm_replayed.proofs.Alone.{settings-committed, settings-past}
use Rattle.ktm_replayed.proofs.replayed.Replayed.apply_settings.Goals as goal

pub returns-in_default : goal.returns-in_default
returns-in_default c = λ ss end spans. and_left _ _ (and_left _ _ ((rw c.in_default.is at c.in_ok-end.ensures) ss end spans))

pub returns-then-not-is_within : goal.returns-then-not-is_within
returns-then-not-is_within c =
    settings-past c.args.self.now.state c.take_settings.new.self.state c.count.new.self.state c.args.transaction c.args.bytes.now c.args.at c.in-Some.end (rw c.in-Some.is at c.in_ok-end.ensures) c.count.ensures
    (sym c.is_within.ensures ∙ c.if-not-is_within.true)

pub returns : goal.returns
returns c =
    settings-committed c.args.self.now.state c.take_settings.new.self.state c.count.new.self.state c.args.transaction c.args.bytes.now c.args.at c.in-Some.end (rw c.in-Some.is at c.in_ok-end.ensures) c.count.ensures
    (sym c.has_events_left.ensures ∙ c.if-not-has_events_left.false) (sym c.is_within.ensures ∙ c.if-not-is_within.false)
