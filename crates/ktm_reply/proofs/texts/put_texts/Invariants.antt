use Rattle.std.proofs.Common.{◌≡◌, ◌++◌, flat_map, length}
use Rattle.ktm_reply.specs.Spelling.{spaced}
use Rattle.ktm_reply.proofs.texts.put_texts.Given as goal

abbrev pub invariant-texts : goal.invariant-texts
invariant-texts l = l.out.items ++ flat_map spaced l.rest ≡ l.fn.out.items ++ flat_map spaced l.texts

abbrev pub decreases-texts : goal.decreases-texts
decreases-texts l = length l.rest
