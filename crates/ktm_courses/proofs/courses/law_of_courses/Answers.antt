use Rattle.ktm_courses.proofs.SoundCommands.{courses_law}
use Rattle.ktm_courses.proofs.courses.law_of_courses.Goals as goal

pub returns : goal.returns
returns c = courses_law c.law_of_step.ensures
