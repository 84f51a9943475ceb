use Rattle.std.proofs.Common.{sym, ap, is_some}
use Rattle.ktm_manager.proofs.Serving.{is_listed, no_manager}
use Rattle.ktm_manager.proofs.managers.Managers.contains.Goals as goal

pub returns-in-Some : goal.returns-in-Some
returns-in-Some c = rw (← c.self.view_is) (sym (is_listed _ _ _ _ (rw c.deref.ensures.value at c.in-Some.ensures)))

pub returns-in-None : goal.returns-in-None
returns-in-None c = rw (← c.self.view_is) (sym (ap is_some (no_manager _ _ _ (rw c.deref.ensures.value at c.in-None.ensures))))
