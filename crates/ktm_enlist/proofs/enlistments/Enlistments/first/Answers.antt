use Rattle.std.proofs.Common.{sym}
use Rattle.ktm_enlist.specs.Places.{is_own}
use Rattle.ktm_enlist.proofs.Places.{from_none}
use Rattle.ktm_enlist.proofs.enlistments.Enlistments.first.Goals as goal

pub returns-in-None : goal.returns-in-None
returns-in-None c = sym (from_none (is_own c.args.transaction) 0 c.args.self.now.enlistments c.in-None.ensures.group)
