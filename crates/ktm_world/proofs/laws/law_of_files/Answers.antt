use Rattle.ktm_world.proofs.FileLaws.{files_law}
use Rattle.ktm_world.proofs.laws.law_of_files.Goals as goal

pub returns : goal.returns
returns c = files_law
