use Rattle.ktm_page.specs.Row.{RowState}
use Rattle.ktm_extent.proofs.Rows.{only-lost, only-none}
use Rattle.ktm_extent.proofs.Told.{Goes-weaker}
use Rattle.ktm_extent.proofs.rewrite.take_unit.Goals as goal

pub returns-in-Err-clause-lost : goal.returns-in-Err-clause-lost
returns-in-Err-clause-lost g c =
    let count = g.G.PageSpace.count c.args.pages.now in
    let held = g.G.PageSpace.holders c.args.pages.now in
    Goes-weaker _ _ _ c.in-Err.ensures.err (λ (r s : RowState) lost. only-lost count c.in-Some.page held r r s c.in-Some.ensures.some.was_free (only-none count held r) lost)
