use Rattle.std.proofs.Common.{◌∷◌, [], None}
use Rattle.ktm_waiting.proofs.offered.Beside.{made-ok, tested-apply}
use Rattle.ktm_waiting.proofs.offered.Keeping.{spared-plain}
use Rattle.ktm_replayed.proofs.replayed.Replayed.commit_change.Goals as goal

pub make_one-requires-clause-spared : goal.make_one-requires-clause-spared
make_one-requires-clause-spared c all new =
    let s = c.args.self.now.state in
    let cs = c.args.change ∷ [] in
    spared-plain s cs c.law_of_kept.ensures.kept (tested-apply s None cs c.is_free.result c.if-not-is_free.false c.is_free.ensures all new)

pub returns-clause-applies : goal.returns-clause-applies
returns-clause-applies c = made-ok c.make_one.result c.args.self.now.state None (c.args.change ∷ []) c.is_free.result c.if-not-is_free.false c.is_free.ensures c.make_one.ensures.applies
