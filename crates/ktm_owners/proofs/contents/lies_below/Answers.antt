use Rattle.std.proofs.Common.{◌∙◌, sym}
use Rattle.ktm_owners.proofs.offered.Pages.{lies-tested, tested-lies}
use Rattle.ktm_owners.proofs.contents.lies_below.Goals as goal

pub returns : goal.returns
returns c = (
  λ is. lies-tested c.pages.result.now c.args.contents c.pages.ensures c.args.count (sym c.are_below.ensures ∙ is),
  λ lies. c.are_below.ensures ∙ tested-lies c.pages.result.now c.args.contents c.pages.ensures c.args.count lies,
)
