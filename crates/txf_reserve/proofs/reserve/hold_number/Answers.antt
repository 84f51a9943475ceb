use Rattle.txf_reserve.specs.ReserveKeys.{IsNodeKey}
use Rattle.txf_reserve.proofs.Holding.{AreKeys-more}
use Rattle.txf_reserve.proofs.reserve.hold_number.Goals as goal

pub returns-in-Some-clause-keys : goal.returns-in-Some-clause-keys
returns-in-Some-clause-keys c =
    AreKeys-more IsNodeKey c.args.pairs.now.pairs _ c.long_bytes.result c.args.transaction c.insert.ensures.pairs (record { number = c.in-Some.number; is = c.long_bytes.ensures })
