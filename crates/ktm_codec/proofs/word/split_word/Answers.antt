use Rattle.std.proofs.Common.{◌∙◌, [], ap, sym, arith, eq-eqb}
use Rattle.ktm_codec.proofs.WordSplits.{word_ends, word_is_all}
use Rattle.ktm_codec.proofs.word.split_word.Goals as goal

pub returns-then-text-i-eq32-clause-word : goal.returns-then-text-i-eq32-clause-word
returns-then-text-i-eq32-clause-word c =
    let word = word_ends [] c.args.text.now c.loop-i.i (omega arith) (eq-eqb _ _ c.if-text-i-eq32.true) c.loop-i.invariant in
    c.split_at.ensures.front ∙ ap (λ w. w.0) (sym word)

pub returns-then-text-i-eq32-clause-rest : goal.returns-then-text-i-eq32-clause-rest
returns-then-text-i-eq32-clause-rest c =
    let word = word_ends [] c.args.text.now c.loop-i.i (omega arith) (eq-eqb _ _ c.if-text-i-eq32.true) c.loop-i.invariant in
    c.split_at.ensures.back ∙ ap (λ w. w.1) (sym word)

pub returns-clause-word : goal.returns-clause-word
returns-clause-word c = ap (λ w. w.0) (sym (word_is_all [] c.args.text.now (λ k below. c.loop-i.invariant k (omega arith))))

pub returns-clause-rest : goal.returns-clause-rest
returns-clause-rest c = ap (λ w. w.1) (sym (word_is_all [] c.args.text.now (λ k below. c.loop-i.invariant k (omega arith))))
