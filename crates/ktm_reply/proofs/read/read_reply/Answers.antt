use Rattle.ktm_reply.proofs.ReplyLemmas.{value_of, exact_of, none_of}
use Rattle.ktm_reply.proofs.read.read_reply.Goals as goal

pub returns-clause-value : goal.returns-clause-value
returns-clause-value c = value_of c.reply.result c.args.line.now c.reply.ensures

pub returns-clause-exact : goal.returns-clause-exact
returns-clause-exact c x valid earliest spelled = exact_of c.reply.result c.args.line.now x c.reply.ensures valid earliest spelled

pub returns-clause-none : goal.returns-clause-none
returns-clause-none c = none_of c.reply.result c.args.line.now c.reply.ensures
