use Rattle.std.proofs.Common.{◌∙◌}
use Rattle.ktm_store.proofs.Framing.{zeros-all}
use Rattle.ktm_store.proofs.frames.clear.Goals as goal

pub returns : goal.returns
returns c = c.fill.ensures.after (λ y is. is) ∙ zeros-all _ c.requires
