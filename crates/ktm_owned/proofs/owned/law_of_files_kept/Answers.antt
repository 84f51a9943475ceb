use Rattle.ktm_owned.proofs.offered.FilesKept.{files_kept_law}
use Rattle.ktm_owned.proofs.owned.law_of_files_kept.Goals as goal

pub returns : goal.returns
returns c = files_kept_law c.law_of_lists.ensures c.law_of_forms.ensures
