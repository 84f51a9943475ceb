-- What a generator keeps, from one line to the next.
use Rattle.std.proofs.Common.{◌≡◌, ◌≢◌, ℕ, suc, ◌+◌, ◌/◌, ◌%◌, arith, refl, sym, ◌∙◌, ap}
use Rattle.rand_pcg.specs.Lcg.{Lcg}
use Rattle.rand_pcg.specs.Pcg.{pcg32}
use Rattle.ktm_gen.specs.Generator.{HasDrawn}
use Rattle.ktm_gen.specs.Script.{after_words, word_of}

-- before the first line
pub none_drawn : (number word : ℕ) → HasDrawn number 0 (after_words number 0) word
none_drawn number word = record { words_are = refl; word_is = λ some. absurd (some refl) }

module _ (number lines word : ℕ) (words : Lcg) (drawn : HasDrawn number lines words word) where
  -- a cycle begins, and its word is drawn
  pub word_drawn : (next : ℕ) (behind : Lcg) → lines % 9 ≡ 0 → (next, behind) ≡ pcg32 words → next ≡ word_of number (lines / 9)
  word_drawn next behind first drew =
      let begun : (lines + 8) / 9 ≡ lines / 9 = omega (arith, first) in
      ap (λ (p : ℕ × Lcg). p.0) drew ∙ ap (λ g. (pcg32 g).0) (drawn.words_are ∙ ap (λ n. after_words number n) begun)

  pub begun : (next : ℕ) (behind : Lcg) → lines % 9 ≡ 0 → (next, behind) ≡ pcg32 words → HasDrawn number (lines + 1) behind next
  unfolding after_words
  begun next behind first drew =
      let begun : (lines + 8) / 9 ≡ lines / 9 = omega (arith, first) in
      let more : (lines + 1 + 8) / 9 ≡ suc (lines / 9) = omega (arith, first) in
      let same : (lines + 1) / 9 ≡ lines / 9 = omega (arith, first) in record {
        words_are = ap (λ (p : ℕ × Lcg). p.1) drew ∙ ap (λ g. (pcg32 g).1) (drawn.words_are ∙ ap (λ n. after_words number n) begun) ∙ ap (λ n. after_words number n) (sym more);
        word_is = λ some. word_drawn next behind first drew ∙ ap (λ n. word_of number n) (sym same);
      }

  -- a cycle goes on
  pub gone_on : lines % 9 ≢ 0 → HasDrawn number (lines + 1) words word
  gone_on some =
      let more : (lines + 1 + 8) / 9 ≡ (lines + 8) / 9 = omega (arith, some) in record {
        words_are = drawn.words_are ∙ ap (λ n. after_words number n) (sym more);
        word_is = λ still.
            let same : (lines + 1) / 9 ≡ lines / 9 = omega (arith, some, still) in
            drawn.word_is some ∙ ap (λ n. word_of number n) (sym same);
      }
