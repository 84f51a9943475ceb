use Rattle.std.proofs.Common.{sym}
use Rattle.ktm_manager.proofs.offered.Served.{served_nothing}
use Rattle.ktm_enlist.proofs.telling.tell_one.Goals as goal

pub returns-else-is_one_of-clause-managers : goal.returns-else-is_one_of-clause-managers
returns-else-is_one_of-clause-managers c = rw (sym c.is_one_of.ensures, c.if-is_one_of.false) (sym (served_nothing c.args.managers.now.managers))
