use Rattle.ktm_memory.proofs.memory.Memory.carry_out.Given as goal

abbrev pub ghosts-carry_uncounted : goal.ghosts-carry_uncounted
ghosts-carry_uncounted a = record { name = a.blank.name; parts = a.blank.parts }
