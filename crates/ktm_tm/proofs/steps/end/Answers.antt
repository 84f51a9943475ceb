use Rattle.ktm_tm.proofs.steps.end.Goals as goal

pub returns-clause-carries : goal.returns-clause-carries
returns-clause-carries g c = rw (c.end_notice.ensures, c.enter-t.ensures) at c.tell.ensures.carries
