use Rattle.std.proofs.Common.{◌≡◌, ◌≤◌, true, List, [], ◌∷◌, length, refl, arith}
use Rattle.std.specs.List.{list_any}
use Rattle.ktm_world.specs.declared.recorded.RecordedPart.{RecordedPart}
use Rattle.ktm_waiting.proofs.parts.has_part.Goals as goal

some-part : (ps : List RecordedPart) → 1 ≤ length ps → true ≡ list_any (λ (p : RecordedPart). true) ps
some-part [] some = absurd (omega arith)
some-part (p ∷ ps) some = refl

pub returns-in-len1-up : goal.returns-in-len1-up
returns-in-len1-up c = some-part c.args.parts.now c.in-len1-up.len_at_least
