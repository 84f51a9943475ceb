use Rattle.std.proofs.Common.{arith}
use Rattle.ktm_codec.proofs.HexLemmas.{unhex-start, unhex-step}
use Rattle.ktm_codec.specs.Hex.{unhex}
use Rattle.ktm_codec.proofs.hex.read_pairs.Goals as goal

pub bytes-init : goal.bytes-init
bytes-init c = unhex-start (unhex c.args.text.now)

pub bytes-preserved : goal.bytes-preserved
bytes-preserved c = unhex-step _ _ c.bytes.i _ (omega arith) (omega arith) c.byte_of.ensures c.bytes.invariant
