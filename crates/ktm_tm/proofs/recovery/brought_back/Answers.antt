use Rattle.std.proofs.Common.{◌∙◌, ap, arith, length, length-take, take}
use Rattle.ktm_tm.proofs.Recovering.{back_within, recovers_back}
use Rattle.ktm_tm.specs.Recovery.{recovers}
use Rattle.ktm_tm.proofs.recovery.brought_back.Goals as goal

pub slice_bounds-result-end : goal.slice_bounds-result-end
slice_bounds-result-end c = omega (arith, length-take c.args.back c.as_slice.result.now, ap length c.as_slice.ensures, back_within c.args.back c.args.enlistments.now.enlistments c.requires)

pub returns : goal.returns
returns c = λ ts manager. ap (λ l. recovers ts manager (take c.args.back l)) c.as_slice.ensures ∙ recovers_back ts manager c.args.back c.args.enlistments.now.enlistments c.requires
