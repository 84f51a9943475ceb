use Rattle.std.proofs.Common.{◌==◌, ◌∙◌, ap}
use Rattle.ktm_owners.proofs.offered.Pages.{unit-tested}
use Rattle.ktm_owners.proofs.contents.has_unit.Goals as goal

pub returns-in-Some : goal.returns-in-Some
returns-in-Some c =
    let there = c.in-Some.ensures.lookup.3 in
    ap (λ n. n == c.args.page) (there.1 0) ∙ unit-tested c.pages.result.now c.args.contents c.pages.ensures c.args.unit c.args.page there.0
