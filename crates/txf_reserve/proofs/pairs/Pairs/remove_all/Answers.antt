use Rattle.std.proofs.Common.{ap, ◌∙◌}
use Rattle.txf_reserve.specs.HeldPairs.{has_pair}
use Rattle.txf_reserve.proofs.Changing.{without_own}
use Rattle.txf_reserve.proofs.PairNames.{same_ids}
use Rattle.txf_reserve.proofs.pairs.Pairs.remove_all.Goals as goal

pub returns-clause-pairs : goal.returns-clause-pairs
returns-clause-pairs g c = λ k id.
    without_own (has_pair c.args.self.now.pairs k id) (has_pair c.remove_next.new.self.pairs k id) id c.args.transaction
    (λ same. ap (has_pair c.remove_next.new.self.pairs k) (same_ids id c.args.transaction same) ∙ c.remove_next.ensures.none c.loop-transaction-test.false k)
    (λ differs. c.remove_next.ensures.others k id differs ∙ c.loop-transaction.invariant.others k id differs)
