use Rattle.std.proofs.Common.{◌∙◌}
use Rattle.ktm_codec.proofs.HexPairs.{digits_of_byte}
use Rattle.ktm_codec.proofs.hex.digits_of.Goals as goal

pub returns : goal.returns
returns c = c.to_le_bytes.ensures ∙ digits_of_byte c.args.byte c.from_le_bytes-values.result c.ranges.byte.fits c.from_le_bytes-values.ensures
