use Rattle.std.proofs.Common.{sym, ◌∙◌}
use Rattle.ktm_kernel.proofs.Calls.{tick-answered, tick-askable, tick-down}
use Rattle.ktm_kernel.proofs.Given.{rows-seen}
use Rattle.ktm_kernel.proofs.kernel.Kernel.tick.Goals as goal

pub returns-then-not-is_up : goal.returns-then-not-is_up
returns-then-not-is_up g c = tick-down c.args.ms c.args.self.now _ _ (sym c.is_up.ensures ∙ c.if-not-is_up.true) c.requires.ready

pub answer-requires-clause-askable : goal.answer-requires-clause-askable
answer-requires-clause-askable g c = tick-askable c.args.self.now _ _ (sym c.is_up.ensures ∙ c.if-not-is_up.false) c.requires.ready c.args.ms

pub returns : goal.returns
returns g c =
    tick-answered (record { standing = c.law_of_standing.ensures; kept = c.law_of_kept.ensures; reserves = c.law_of_reserved_files.ensures; spelling = c.law_of_spelling.ensures; alike = c.law_of_alike_presents.ensures; seen = rows-seen c.law_of_paged_records.ensures; pages = c.law_of_pages.ensures })
    c.law_of_units.ensures c.args.self.now _ _ (sym c.is_up.ensures ∙ c.if-not-is_up.false) c.requires.ready c.requires.counts c.answer.new.self _ _ c.args.ms c.in-Ok.reply c.in-Ok.ensures.asked
