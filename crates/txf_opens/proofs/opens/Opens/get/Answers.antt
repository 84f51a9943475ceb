use Rattle.std.proofs.Common.{ap, ◌∙◌}
use Rattle.std.specs.Option.{option_map}
use Rattle.txf_opens.specs.Acts.{open_of}
use Rattle.txf_opens.proofs.Found.{find_by_number, none_by_number}
use Rattle.txf_opens.proofs.opens.Opens.get.Goals as goal

pub returns-in-Some : goal.returns-in-Some
returns-in-Some c =
    rw (← c.self.view_is)
    (ap (option_map open_of) (c.copied.ensures ∙ c.get.ensures)
    ∙ find_by_number _ _ c.args.number c.self.invariant.by_number c.self.invariant.distinct c.in-Some.key (rw c.number_bytes.ensures at c.in-Some.ensures))

pub returns-in-None : goal.returns-in-None
returns-in-None c =
    rw (← c.self.view_is)
    (none_by_number _ _ c.args.number c.self.invariant.by_number c.self.invariant.distinct (rw c.number_bytes.ensures at c.in-None.ensures))
