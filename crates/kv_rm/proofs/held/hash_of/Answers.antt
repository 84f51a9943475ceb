use Rattle.kv_rm.proofs.Hashes.{mixed_more, hash_is}
use Rattle.kv_rm.proofs.held.hash_of.Goals as goal

pub loop-byte-preserved : goal.loop-byte-preserved
loop-byte-preserved c = rw c.from.ensures (mixed_more c.args.key.now c.loop-byte.byte-index c.loop-byte.hash c.loop-byte-test.true c.loop-byte.invariant)

pub returns-clause-is : goal.returns-clause-is
returns-clause-is c = hash_is c.args.key.now c.loop-byte.byte-index c.loop-byte.hash c.loop-byte-test.false c.loop-byte.invariant
