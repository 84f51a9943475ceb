use Rattle.std.proofs.Common.{◌≡◌, ◌+◌, ◌/◌, ◌≤◌, ◌∙◌, List, ℕ, ap, arith, length, subst, sym}
use Rattle.ktm_content.specs.Contents.{cut_to}
use Rattle.ktm_content.specs.Places.{ContentState, places_on}
use Rattle.ktm_content.proofs.offered.Putting.{cut-places}
use Rattle.ktm_content.proofs.content.Content.cut.Goals as goal

pub returns-clause-bytes : goal.returns-clause-bytes
returns-clause-bytes c =
    let old = c.self.inside in
    let size = c.args.size in
    let shorter = subst (λ (s : ContentState). size ≤ length s.bytes) (sym c.self.view_is) c.requires in
    let units : c.div_ceil.result ≡ (size + 4095) / 4096 = omega (arith, c.div_ceil.ensures) in
    ap (λ (l : List ℕ). places_on l size) c.truncate.ensures.items
    ∙ cut-places old.pages.items old.size size c.div_ceil.result c.self.invariant shorter units
    ∙ ap (λ (s : ContentState). cut_to s.bytes size) c.self.view_is
