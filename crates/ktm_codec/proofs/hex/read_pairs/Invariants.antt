use Rattle.std.proofs.Common.{◌≡◌, ◌*◌, ◌++◌, option_map, take, drop}
use Rattle.ktm_codec.specs.Hex.{unhex}
use Rattle.ktm_codec.proofs.hex.read_pairs.Given as goal

abbrev pub invariant-bytes : goal.invariant-bytes
invariant-bytes l = option_map (λ bs. take l.i l.bytes ++ bs) (unhex (drop (2 * l.i) l.text)) ≡ unhex l.text
