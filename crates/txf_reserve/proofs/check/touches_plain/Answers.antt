use Rattle.std.proofs.Common.{◌&&◌, false, is_none, refl, sym}
use Rattle.ktm_world.specs.Conflicts.{writes}
use Rattle.ktm_world.specs.Files.{OpenFile}
use Rattle.txf_opens.proofs.Lists.{any_false}
use Rattle.txf_reserve.proofs.Meets.{and_false}
use Rattle.txf_reserve.proofs.check.touches_plain.Goals as goal

pub returns-in-Some-None : goal.returns-in-Some-None
returns-in-Some-None c =
    rw (c.in-Some-None.is-0, c.in-Some-None.is-1)
    (sym (any_false (λ (o : OpenFile). is_none o.transaction && writes o.access && false) (λ o. and_false (is_none o.transaction && writes o.access) false refl) c.args.opens.now.opens))
