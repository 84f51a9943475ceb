use Rattle.ktm_standing.proofs.offered.Rows.{courses_law}
use Rattle.ktm_standing.proofs.laws.law_of_courses.Goals as goal

pub returns : goal.returns
returns c = courses_law
