use Rattle.ktm_codec.proofs.HexPairs.{byte_of_pair}
use Rattle.ktm_codec.proofs.hex.byte_of.Goals as goal

pub overflow_sub-values-2 : goal.overflow_sub-values-2
overflow_sub-values-2 c = (byte_of_pair c.args.high c.args.low c.from_le_bytes-pair.result c.requires.high c.requires.low c.from_le_bytes-pair.ensures).0

pub returns : goal.returns
returns c = (byte_of_pair c.args.high c.args.low c.from_le_bytes-pair.result c.requires.high c.requires.low c.from_le_bytes-pair.ensures).1
