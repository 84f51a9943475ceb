-- What is seen of a generator, and what it keeps.
use Rattle.std.specs.Prelude.{◌≡◌, ◌≢◌, ℕ, ◌+◌, ◌/◌, ◌%◌}
use Rattle.rand_pcg.specs.Lcg.{Lcg}
use Rattle.ktm_gen.specs.Script.{after_words, word_of}

-- the number whose script it gives, and how many lines it has given
pub record GeneratorState : Type 0 where
  pub number : ℕ
  pub lines : ℕ

-- a word was drawn for each cycle that began, and that of a cycle that has not ended is kept
pub record HasDrawn (number lines : ℕ) (words : Lcg) (word : ℕ) : Type 0 where
  pub words_are : words ≡ after_words number ((lines + 8) / 9)
  pub word_is : lines % 9 ≢ 0 → word ≡ word_of number (lines / 9)
