use Rattle.std.proofs.Common.{[], refl}
use Rattle.ktm_memory.proofs.commit.record_as_it_is.Goals as goal

pub unreachable-requires : goal.unreachable-requires
unreachable-requires c = c.in_default.not-Some c.args.change (c.change_in.ensures c.args.change refl)

pub returns-clause-same : goal.returns-clause-same
returns-clause-same c = let some = c.change_in.ensures c.args.change refl in cc

pub returns-clause-holds : goal.returns-clause-holds
returns-clause-holds c = c.push.ensures.adds [] c.requires.empty
