use Rattle.std.proofs.Common.{arith}
use Rattle.ktm_owners.proofs.offered.Turns.{on-ok}
use Rattle.ktm_owners.proofs.owners.Owners.name_contents.Goals as goal

pub name_pages-requires : goal.name_pages-requires
name_pages-requires c = omega (arith, c.requires, c.pages.ensures.units, c.law_of_sizes.ensures)

pub returns-clause-named : goal.returns-clause-named
returns-clause-named c = on-ok c.name_pages.result (λ is. (c.pages.result.now, c.pages.ensures, is)) c.name_pages.ensures.named
