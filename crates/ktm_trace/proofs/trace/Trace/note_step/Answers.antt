use Rattle.ktm_trace.proofs.Few.{noted-more}
use Rattle.ktm_trace.proofs.trace.Trace.note_step.Goals as goal

pub returns-in-Record-clause-more : goal.returns-in-Record-clause-more
returns-in-Record-clause-more c = rw (c.in-Record.is, c.note.ensures) (noted-more c.args.of.now c.in-Record.fact c.args.self.now c.law_of_order.ensures)
