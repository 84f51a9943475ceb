use Rattle.std.proofs.Common.{refl}
use Rattle.ktm_mem.proofs.OffOrNot.{not_off}
use Rattle.ktm_mem.proofs.disk.MemDiskDisk.sync.Goals as goal

pub returns-in-Err-clause-call : goal.returns-in-Err-clause-call
returns-in-Err-clause-call c = c.in-Err.ensures.call _ _ (λ off. refl)

pub returns-clause-call : goal.returns-clause-call
returns-clause-call c = c.in_default.ensures.call _ _ (λ off. absurd (not_off _ _ c.in_default.ensures.down off))
