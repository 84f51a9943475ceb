use Rattle.ktm_gen.specs.Script.{after_words}
use Rattle.ktm_gen.proofs.Drawing.{none_drawn}
use Rattle.ktm_gen.proofs.generator.Generator.new.Goals as goal

pub invariant_of-result : goal.invariant_of-result
unfolding after_words
invariant_of-result c = rw c.seed_from_u64.ensures (none_drawn c.args.number 0)
