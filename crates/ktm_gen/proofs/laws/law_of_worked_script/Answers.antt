use Rattle.std.proofs.Common.{refl}
use Rattle.std.specs.Fmt.{digits}
use Rattle.rand_core.specs.Pcg32Seed.{pcg32_seed}
use Rattle.rand_core.specs.Steps.{u32_at, word_bytes}
use Rattle.ktm_gen.specs.Script.{after_words, line_at}
use Rattle.ktm_gen.proofs.laws.law_of_worked_script.Goals as goal

pub returns-clause-begins : goal.returns-clause-begins
unfolding digits pcg32_seed u32_at word_bytes after_words line_at
returns-clause-begins c = refl

pub returns-clause-ends : goal.returns-clause-ends
unfolding digits pcg32_seed u32_at word_bytes after_words line_at
returns-clause-ends c = (refl, refl)
