use Rattle.ktm_event.proofs.Writings.{pushed, on_ok_so}
use Rattle.ktm_event.proofs.part.put_settings_part.Goals as goal

pub returns-clause-adds : goal.returns-clause-adds
returns-clause-adds c = on_ok_so c.put_settings.result c.put_settings.ensures.adds (pushed c.in_ok-push.ensures.items)
