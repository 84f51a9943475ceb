use Rattle.std.proofs.Common.{◌≡◌, ◌&&◌, drop, nat_lt}
use Rattle.std.specs.List.{list_all}
use Rattle.ktm_codec.specs.Hex.{is_hex_digit}
use Rattle.ktm_codec.proofs.hex.are_digits.Given as goal

abbrev pub invariant-loop-c : goal.invariant-loop-c
invariant-loop-c l = nat_lt l.most 10 && list_all is_hex_digit (drop l.c-index l.text) ≡ list_all is_hex_digit l.text
