use Rattle.ktm_memory.proofs.course.finish_files.Given as goal

abbrev pub ghosts-finish_uncounted : goal.ghosts-finish_uncounted
ghosts-finish_uncounted a = record { name = a.blank.name; parts = a.blank.parts }
