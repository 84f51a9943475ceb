use Rattle.std.proofs.Common.{◌≡◌, None, sym, ◌∙◌}
use Rattle.ktm_links.specs.Items.{value_at}
use Rattle.txf_opens.proofs.Ends.{none_of_it, number_of_it}
use Rattle.txf_opens.proofs.opens.Opens.first_of.Goals as goal

pub returns-in_default-clause-none : goal.returns-in_default-clause-none
returns-in_default-clause-none c =
    rw (← c.self.view_is)
    (none_of_it _ _ c.args.transaction c.self.invariant.by_group c.self.invariant.distinct (rw c.group_bytes.ensures at c.in_default.ensures.none))

pub unreachable-requires : goal.unreachable-requires
unreachable-requires c =
    let first = c.in-Some.ensures.first in
    let at = c.self.invariant.by_group.only first.name c.in-Some.key first.there in
    let some = at.there in
    let none : value_at c.self.inside.files.items c.in-Some.key ≡ None = sym (c.copied.ensures ∙ c.get.ensures) ∙ c.in_default-copied.is in
    cc

pub returns-clause-some : goal.returns-clause-some
returns-clause-some c =
    rw (← c.self.view_is)
    (number_of_it _ _ _ c.args.transaction c.in-Some.key c.in-Some-copied.file c.self.invariant.by_number c.self.invariant.by_group c.self.invariant.distinct
    (rw c.group_bytes.ensures at c.in-Some.ensures.first) (sym (c.in-Some-copied.ensures ∙ c.get.ensures)))
