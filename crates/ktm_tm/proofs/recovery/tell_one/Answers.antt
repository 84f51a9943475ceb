use Rattle.std.proofs.Common.{sym}
use Rattle.ktm_manager.proofs.offered.Served.{served_nothing}
use Rattle.ktm_tm.proofs.recovery.tell_one.Goals as goal

pub returns-else-is_to_recover-clause-managers : goal.returns-else-is_to_recover-clause-managers
returns-else-is_to_recover-clause-managers c = rw (sym c.is_to_recover.ensures, c.if-is_to_recover.false) (sym (served_nothing c.args.managers.now.managers))
