use Rattle.std.proofs.Common.{sym}
use Rattle.ktm_enlist.specs.Places.{is_superior_of}
use Rattle.ktm_enlist.proofs.Grouping.{none_superior}
use Rattle.ktm_enlist.proofs.Places.{from_none}
use Rattle.ktm_enlist.proofs.enlistments.Enlistments.superior_place.Goals as goal

pub returns-in-None : goal.returns-in-None
returns-in-None c = sym (from_none (is_superior_of c.args.transaction) 0 c.args.self.now.enlistments (none_superior c.args.transaction c.args.self.now.enlistments c.in-None.ensures.group))
