use Rattle.ktm_memory.proofs.Finished.{keys_finished}
use Rattle.ktm_memory.proofs.course.finish_keys.Goals as goal

pub returns-clause-store : goal.returns-clause-store
returns-clause-store c = (keys_finished c.args.keys.now c.finish_uncounted.new.participant c.args.id c.finish_uncounted.result c.args.commits c.finish_uncounted.ensures.work c.finish_uncounted.ensures.committed c.finish_uncounted.ensures.undone c.finish_uncounted.ensures.none).store

pub returns-clause-own : goal.returns-clause-own
returns-clause-own c = (keys_finished c.args.keys.now c.finish_uncounted.new.participant c.args.id c.finish_uncounted.result c.args.commits c.finish_uncounted.ensures.work c.finish_uncounted.ensures.committed c.finish_uncounted.ensures.undone c.finish_uncounted.ensures.none).own
