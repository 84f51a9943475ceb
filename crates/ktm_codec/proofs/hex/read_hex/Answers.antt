use Rattle.std.proofs.Common.{◌∙◌, ◌++◌, ℕ, List, ap, arith, option_map, sym}
use Rattle.ktm_codec.proofs.HexLemmas.{digits-behind, unhex-block, unhex-odd, unhex-other}
use Rattle.ktm_codec.specs.Hex.{unhex}
use Rattle.ktm_codec.proofs.hex.read_hex.Goals as goal
use Rattle.ktm_codec.proofs.hex.read_hex.Goals.{then-text-ne0-via-then-text-ne0, then-text-ne0-via-else-text-ne0+then-not-are_digits}

pub returns-then-text-ne0 : goal.returns-then-text-ne0
returns-then-text-ne0 c = elim c.then-text-ne0.branch [
  | then-text-ne0-via-then-text-ne0 w ↦ sym (unhex-odd c.args.text.now w.if-text-ne0.true)
  | then-text-ne0-via-else-text-ne0+then-not-are_digits w ↦ sym (unhex-other c.args.text.now (sym w.if-not-are_digits.ensures))
]

pub loop-rest-preserved : goal.loop-rest-preserved
loop-rest-preserved c = record {
  read =
      ap (λ (t : List ℕ). option_map (λ bs. c.read_block.new.bytes.items ++ bs) (unhex t)) c.split_at.ensures.back
      ∙ unhex-block c.loop-rest.rest.now c.loop-rest.bytes.items c.read_block.new.bytes.items c.min.result (rw c.split_at.ensures.front at c.in_default.ensures.read) c.in_default.ensures.front
      ∙ c.loop-rest.invariant.read;
  even = omega (arith, c.split_at.ensures.back_len, c.min.ensures, c.loop-rest.invariant.even);
  digits = rw c.split_at.ensures.back (digits-behind c.min.result c.loop-rest.rest.now c.loop-rest.invariant.digits);
}
