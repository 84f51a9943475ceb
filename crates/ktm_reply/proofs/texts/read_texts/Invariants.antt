use Rattle.std.proofs.Common.{◌≡◌, ◌++◌, option_map, length}
use Rattle.ktm_reply.specs.Reading.{texts_at}
use Rattle.ktm_reply.proofs.texts.read_texts.Given as goal

abbrev pub invariant-texts : goal.invariant-texts
invariant-texts l = option_map (λ more. l.texts ++ more) (texts_at l.rest) ≡ texts_at l.text

abbrev pub decreases-texts : goal.decreases-texts
decreases-texts l = length l.rest
