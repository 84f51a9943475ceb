use Rattle.ktm_kernel.proofs.Answered.{answered-by}
use Rattle.ktm_kernel.proofs.kernel.Kernel.answer.Goals as goal

pub answer-requires-clause-ready : goal.answer-requires-clause-ready
answer-requires-clause-ready g c = λ row. ((rw (← c.self.view_is) at c.requires.ready).core (rw (← c.self.view_is) at c.requires.up)).ready row

pub returns-clause-asked : goal.returns-clause-asked
returns-clause-asked g c = answered-by c.law_of_standing.ensures c.args.self.now c.self.inside.core.memory c.answer.new.self.memory c.self.inside.core.store c.answer.new.self.store c.args.asked _ _ _ _ c.answer.result c.self.view_is
    c.law_of_rows.ensures.rows.0 c.law_of_rows.ensures.rows.1 c.answer.ensures.shows c.answer.ensures.leaves c.answer.ensures.no_memory c.answer.ensures.rules
    c.requires.up c.requires.ready c.requires.counts c.requires.askable
