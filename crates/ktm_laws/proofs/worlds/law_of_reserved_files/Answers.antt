use Rattle.ktm_laws.proofs.ReservedFiles.{reserved_files_law}
use Rattle.ktm_laws.proofs.worlds.law_of_reserved_files.Goals as goal

pub returns : goal.returns
returns c = reserved_files_law c.law_of_lists.ensures c.law_of_forms.ensures c.law_of_file_calls.ensures
