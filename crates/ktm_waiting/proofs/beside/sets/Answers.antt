use Rattle.std.proofs.Common.{[], None, is_some, ap, sym}
use Rattle.ktm_waiting.proofs.beside.sets.Goals as goal

pub returns-in-Here : goal.returns-in-Here
returns-in-Here c = sym (ap is_some (c.in-Here.ensures.value (record { key = []; value = None })))
