use Rattle.std.proofs.Common.{◌&&◌, false, is_some, refl, sym}
use Rattle.ktm_world.specs.Files.{OpenFile}
use Rattle.txf_opens.proofs.Lists.{any_false}
use Rattle.txf_reserve.proofs.Meets.{and_false}
use Rattle.txf_reserve.proofs.check.overwrites_transacted.Goals as goal

pub returns-in-None-None : goal.returns-in-None-None
returns-in-None-None c =
    rw (c.in-None-None.is-0, c.in-None-None.is-1)
    (sym (any_false (λ (o : OpenFile). is_some o.transaction && false) (λ o. and_false (is_some o.transaction) false refl) c.args.opens.now.opens))
