use Rattle.ktm_event.proofs.Writings.{pushed, on_ok_so}
use Rattle.ktm_event.proofs.part.put_names_and_files_part.Goals as goal

pub returns-clause-adds : goal.returns-clause-adds
returns-clause-adds g c = on_ok_so c.put_names_and_files.result c.put_names_and_files.ensures.adds (pushed c.in_ok-push.ensures.items)
