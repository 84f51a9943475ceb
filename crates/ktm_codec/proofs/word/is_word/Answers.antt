use Rattle.std.proofs.Common.{length, sym, arith, ◌≡◌}
use Rattle.std.proofs.lemmas.Grind.{same_number_lists}
use Rattle.std.proofs.lemmas.Slice.Eq.{bytes_eq-Decides}
use Rattle.ktm_codec.proofs.word.is_word.Goals as goal

pub returns : goal.returns
returns c =
    let long : length c.args.text.now ≡ length c.args.word.now = omega arith in
    sym ((bytes_eq-Decides c.args.text.now c.args.word.now).1 (same_number_lists _ _ long (λ k below. c.loop-i.invariant k (omega arith))))
