use Rattle.std.proofs.Common.{arith, refl}
use Rattle.ktm_content.proofs.States.{size-of}
use Rattle.ktm_content.proofs.content.Content.units.Goals as goal

pub returns : goal.returns
returns c =
    let long = size-of _ c.args.self.now c.self.inside.pages.items c.self.inside.size c.self.view_is refl c.self.invariant in
    omega (arith, long, c.self.invariant, c.len.ensures, c.self.inside.pages.ok)
