use Rattle.ktm_courses.proofs.SoundCommands.{outcomes_law}
use Rattle.ktm_courses.proofs.courses.law_of_kept_outcomes.Goals as goal

pub returns : goal.returns
returns c = outcomes_law
