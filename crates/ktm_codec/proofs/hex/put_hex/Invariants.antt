use Rattle.std.proofs.Common.{◌≡◌, ◌++◌, length, take}
use Rattle.ktm_codec.specs.Hex.{hex_of}
use Rattle.ktm_codec.proofs.hex.put_hex.Given as goal

abbrev pub invariant-loop-rest : goal.invariant-loop-rest
invariant-loop-rest l = record {
  written : l.out.items ++ hex_of l.rest ≡ l.fn.out.items ++ hex_of l.bytes;
  front : take (length l.fn.out.items) l.out.items ≡ l.fn.out.items;
}

abbrev pub decreases-loop-rest : goal.decreases-loop-rest
decreases-loop-rest l = length l.rest
