use Rattle.std.proofs.Common.{◌∙◌, [], ap, sym, arith}
use Rattle.std.proofs.lemmas.Bool.{false_from_ne_true}
use Rattle.ktm_codec.proofs.WordSplits.{word_ends, word_is_all}
use Rattle.ktm_codec.proofs.word.split_long_word.Goals as goal

pub returns-in-Some-clause-word : goal.returns-in-Some-clause-word
returns-in-Some-clause-word c =
    let word = word_ends [] c.args.text.now c.in-Some.end c.in-Some.ensures.0.high c.in-Some.ensures.1 (λ k below. false_from_ne_true _ (c.in-Some.ensures.0.before k (omega arith) below)) in
    c.split_at.ensures.front ∙ ap (λ w. w.0) (sym word)

pub returns-in-Some-clause-rest : goal.returns-in-Some-clause-rest
returns-in-Some-clause-rest c =
    let word = word_ends [] c.args.text.now c.in-Some.end c.in-Some.ensures.0.high c.in-Some.ensures.1 (λ k below. false_from_ne_true _ (c.in-Some.ensures.0.before k (omega arith) below)) in
    c.split_at.ensures.back ∙ ap (λ w. w.1) (sym word)

pub returns-in-None-clause-word : goal.returns-in-None-clause-word
returns-in-None-clause-word c =
    ap (λ w. w.0) (sym (word_is_all [] c.args.text.now (λ k below. false_from_ne_true _ (c.in-None.ensures k (omega arith) below))))

pub returns-in-None-clause-rest : goal.returns-in-None-clause-rest
returns-in-None-clause-rest c =
    ap (λ w. w.1) (sym (word_is_all [] c.args.text.now (λ k below. false_from_ne_true _ (c.in-None.ensures k (omega arith) below))))
