use Rattle.std.proofs.Common.{◌≡◌, ◌%◌, ◌++◌, true, length, option_map}
use Rattle.std.specs.List.{list_all}
use Rattle.ktm_codec.specs.Hex.{is_hex_digit, unhex}
use Rattle.ktm_codec.proofs.hex.read_hex.Given as goal

abbrev pub invariant-loop-rest : goal.invariant-loop-rest
invariant-loop-rest l = record {
  read : option_map (λ bs. l.bytes.items ++ bs) (unhex l.rest) ≡ unhex l.text;
  even : length l.rest % 2 ≡ 0;
  digits : list_all is_hex_digit l.rest ≡ true;
}

abbrev pub decreases-loop-rest : goal.decreases-loop-rest
decreases-loop-rest l = length l.rest
