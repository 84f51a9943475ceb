use Rattle.std.proofs.Common.{◌≡◌, ◌∙◌, subst}
use Rattle.ktm_extent.specs.Extent.{ExtentState}
use Rattle.ktm_extent.proofs.Uses.{uses-contains}
use Rattle.ktm_extent.proofs.extent.Extent.copy.Goals as goal

pub share_all-requires-clause-below : goal.share_all-requires-clause-below
share_all-requires-clause-below g c =
    let list = c.deref-2.ensures.value ∙ c.in_ok-list.ensures.items ∙ c.deref.ensures.value in
    let pages_are = subst (λ (e : ExtentState). c.deref-2.result.now ≡ e.pages) c.self.view_is list in
    rw pages_are (λ page some. c.requires.below page (uses-contains c.args.self.now.pages page some))

pub share_all-requires-clause-out : goal.share_all-requires-clause-out
share_all-requires-clause-out g c =
    let list = c.deref-2.ensures.value ∙ c.in_ok-list.ensures.items ∙ c.deref.ensures.value in
    let pages_are = subst (λ (e : ExtentState). c.deref-2.result.now ≡ e.pages) c.self.view_is list in
    rw pages_are (λ page some. c.requires.out page (uses-contains c.args.self.now.pages page some))
