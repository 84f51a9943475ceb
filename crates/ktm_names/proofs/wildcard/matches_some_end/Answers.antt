use Rattle.std.proofs.Common.{sym, ◌∙◌}
use Rattle.ktm_names.proofs.WalkLemmas.{first_end}
use Rattle.ktm_names.proofs.wildcard.matches_some_end.Goals as goal

pub returns-in-Whole : goal.returns-in-Whole
returns-in-Whole c = sym (first_end c.ends.pattern.now c.ends.name.now c.in-Whole.ensures) ∙ c.ends.invariant
