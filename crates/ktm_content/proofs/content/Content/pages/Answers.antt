use Rattle.std.proofs.Common.{List, ℕ, subst, sym}
use Rattle.ktm_content.specs.Places.{ContentState, LieOn, places_on}
use Rattle.ktm_content.proofs.offered.Bytes.{lie-on}
use Rattle.ktm_content.proofs.content.Content.pages.Goals as goal

pub returns : goal.returns
returns c =
    let lie = lie-on c.self.inside.pages.items c.self.inside.size c.self.invariant in
    subst (λ (s : ContentState). LieOn c.deref.result.now s.bytes) c.self.view_is
    (subst (λ (l : List ℕ). LieOn l (places_on c.self.inside.pages.items c.self.inside.size)) (sym c.deref.ensures.value) lie)
