use Rattle.std.proofs.Common.{List, [], ℕ, subst}
use Rattle.ktm_content.specs.Places.{LieOn}
use Rattle.ktm_memory.proofs.commit.record_units.Goals as goal

pub returns-in-Put-clause-holds : goal.returns-in-Put-clause-holds
returns-in-Put-clause-holds c = (
  c.pages-pages.result.now,
  subst (λ (contents : List ℕ). LieOn c.pages-pages.result.now contents) c.content.ensures c.pages-pages.ensures,
  rw c.in-Put.is (c.push_put.ensures.adds [] c.requires.empty),
)

pub returns-in-End-clause-holds : goal.returns-in-End-clause-holds
returns-in-End-clause-holds c = (
  c.pages-pages.result.now,
  subst (λ (contents : List ℕ). LieOn c.pages-pages.result.now contents) c.content.ensures c.pages-pages.ensures,
  rw (c.in-End.is, ← c.len.ensures) (c.push_cut.ensures.adds [] c.requires.empty),
)
