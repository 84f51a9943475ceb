use Rattle.std.proofs.Common.{◌∙◌, sym}
use Rattle.ktm_waiting.proofs.offered.Beside.{changes-alone, free-ok}
use Rattle.ktm_replayed.proofs.replayed.Replayed.are_free.Goals as goal

pub returns-then-not-others_change : goal.returns-then-not-others_change
returns-then-not-others_change c = sym (changes-alone c.args.self.now.state c.args.who c.args.changes.now (sym c.others_change.ensures ∙ c.if-not-others_change.true))

pub returns : goal.returns
returns c = free-ok c.would_apply.result c.args.self.now.state c.args.who c.args.changes.now c.would_apply.ensures
