use Rattle.std.proofs.Common.{arith}
use Rattle.std.proofs.lemmas.List.{length-map}
use Rattle.ktm_names.proofs.PartLemmas.{parts_few, parts_many}
use Rattle.ktm_names.proofs.parts.parts_of.Goals as goal

pub returns-then-len-gt-MOST_PARTS-clause-not : goal.returns-then-len-gt-MOST_PARTS-clause-not
returns-then-len-gt-MOST_PARTS-clause-not c _ = parts_many _ _ _ c.in-Some.ensures c.in_ok-parts.ensures (simp length-map (omega (arith, c.in_ok-parts.parts.ok.0)))

pub returns-clause-ok : goal.returns-clause-ok
returns-clause-ok c = parts_few _ _ _ c.in-Some.ensures c.in_ok-parts.ensures (simp length-map (omega (arith, c.in_ok-parts.parts.ok.0)))
