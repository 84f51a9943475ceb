use Rattle.ktm_codec.proofs.WordLemmas.{after_word_is, after_word_again}
use Rattle.ktm_codec.proofs.word.law_of_words.Goals as goal

pub returns : goal.returns
returns c = record { found = after_word_is; every = after_word_again }
