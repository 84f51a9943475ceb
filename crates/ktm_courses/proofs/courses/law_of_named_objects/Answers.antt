use Rattle.ktm_courses.proofs.SoundCommands.{named_law}
use Rattle.ktm_courses.proofs.courses.law_of_named_objects.Goals as goal

pub returns : goal.returns
returns c = named_law
