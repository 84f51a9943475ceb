use Rattle.std.proofs.Common.{◌≡◌, ◌*◌, take}
use Rattle.ktm_codec.specs.Hex.{hex_of}
use Rattle.ktm_codec.proofs.hex.write_pairs.Given as goal

abbrev pub invariant-bytes : goal.invariant-bytes
invariant-bytes l = take (2 * l.i) l.digits ≡ hex_of (take l.i l.bytes)
