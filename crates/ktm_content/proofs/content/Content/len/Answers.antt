use Rattle.std.proofs.Common.{refl}
use Rattle.ktm_content.proofs.States.{size-of}
use Rattle.ktm_content.proofs.content.Content.len.Goals as goal

pub returns : goal.returns
returns c = size-of _ c.args.self.now c.self.inside.pages.items c.self.inside.size c.self.view_is refl c.self.invariant
