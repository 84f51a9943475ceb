use Rattle.std.proofs.Common.{◌∙◌, sym}
use Rattle.std.proofs.lemmas.Option.{same_Some}
use Rattle.ktm_links.proofs.offered.Entries.{first_with-here, first_with-nowhere, first_with-nothing}
use Rattle.ktm_links.proofs.chains.Chains.first_with.Goals as goal

pub returns-then-starts_with-clause-first : goal.returns-then-starts_with-clause-first
returns-then-starts_with-clause-first g c =
    let f = c.in-Some.ensures.first in
    let name = same_Some _ _ (c.in-Some-name.ensures.name f.name f.value f.there) in
    first_with-here _ _ _ _ f name (sym c.starts_with.ensures.value ∙ c.if-starts_with.true)

pub returns-else-starts_with-clause-none : goal.returns-else-starts_with-clause-none
returns-else-starts_with-clause-none g c =
    let f = c.in-Some.ensures.first in
    let name = same_Some _ _ (c.in-Some-name.ensures.name f.name f.value f.there) in
    first_with-nowhere _ _ _ _ f name (sym c.starts_with.ensures.value ∙ c.if-starts_with.false)

pub returns-in-None-clause-none : goal.returns-in-None-clause-none
returns-in-None-clause-none g c = first_with-nothing _ _ c.in-None.ensures.none
