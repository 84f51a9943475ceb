use Rattle.ktm_waiting.proofs.Fitting.{item-in}
use Rattle.ktm_waiting.proofs.beside.others_set.Goals as goal

pub sets_one-requires-clause-parts : goal.sets_one-requires-clause-parts
sets_one-requires-clause-parts c = c.requires.parts c.t-item.result (item-in c.args.transactions.now c.loop-t.t-index c.t-item.result c.loop-t-test.true c.t-item.is)

pub sets_one-requires-clause-kept : goal.sets_one-requires-clause-kept
sets_one-requires-clause-kept c = c.requires.kept c.t-item.result (item-in c.args.transactions.now c.loop-t.t-index c.t-item.result c.loop-t-test.true c.t-item.is)
