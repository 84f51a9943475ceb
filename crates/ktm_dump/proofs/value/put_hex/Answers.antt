use Rattle.std.proofs.Common.{get_or}
use Rattle.std.proofs.lemmas.List.{get_or_default}
use Rattle.ktm_codec.specs.Hex.{hex_pair}
use Rattle.ktm_dump.proofs.Puts.{broken_as, broken_next, put_as, put_next}
use Rattle.ktm_dump.proofs.value.put_hex.Goals as goal

pub returns-in-Err : goal.returns-in-Err
returns-in-Err g c =
    broken_next hex_pair c.args.bytes.now c.loop-byte.byte-index (get_or c.args.bytes.now c.loop-byte.byte-index 0) (get_or_default _ _ _ _ c.loop-byte-test.true) c.loop-byte-test.true _ _ _
    c.loop-byte.invariant (broken_as _ _ _ _ c.pair.ensures c.in-Err.ensures)

pub loop-byte-preserved : goal.loop-byte-preserved
loop-byte-preserved g c =
    put_next hex_pair c.args.bytes.now c.loop-byte.byte-index (get_or c.args.bytes.now c.loop-byte.byte-index 0) (get_or_default _ _ _ _ c.loop-byte-test.true) c.loop-byte-test.true _ _ _
    c.loop-byte.invariant (put_as _ _ _ _ c.pair.ensures c.in_default.ensures)
