use Rattle.std.proofs.lemmas.List.{get_or_default}
use Rattle.ktm_enlist.proofs.groups.group_in.Goals as goal

pub returns-in-Ok : goal.returns-in-Ok
returns-in-Ok c = record { place = c.in-Ok.at; here = c.in-Ok.ensures.here; is = λ d. get_or_default c.args.groups.now c.in-Ok.at _ d c.in-Ok.ensures.within }
