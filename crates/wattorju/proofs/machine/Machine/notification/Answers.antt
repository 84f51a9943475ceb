use Rattle.ktm_forms.specs.Tells.{a_notification}
use Rattle.wattorju.proofs.machine.Machine.notification.Goals as goal

pub to_notification-requires : goal.to_notification-requires
to_notification-requires g c = c.complete.ensures.told a_notification c.requires.tells

pub returns : goal.returns
returns g c = rw (c.to_notification.ensures, ← c.self.view_is) c.complete.ensures.completed
