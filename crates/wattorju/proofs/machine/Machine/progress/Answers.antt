use Rattle.ktm_forms.specs.Tells.{progress}
use Rattle.wattorju.proofs.machine.Machine.progress.Goals as goal

pub to_progress-requires : goal.to_progress-requires
to_progress-requires g c = c.complete.ensures.told progress c.requires.tells

pub returns : goal.returns
returns g c = rw (c.to_progress.ensures, ← c.self.view_is) c.complete.ensures.completed
