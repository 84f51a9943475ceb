use Rattle.std.proofs.Common.{refl, sym, ◌∙◌}
use Rattle.ktm_mem.proofs.disk.MemDiskDisk.write_at.Goals as goal
use Rattle.ktm_mem.proofs.disk.MemDiskDisk.write_at.Goals.{then-not-was_down, else-not-was_down}

pub returns-then-is_err-clause-call : goal.returns-then-is_err-clause-call
returns-then-is_err-clause-call c = rw (sym c.if-is_err.true ∙ c.is_err.ensures.value) (c.begin_call-begun.ensures.call _ _
    (λ off. elim c.if-not-was_down.branch [ then-not-was_down w ↦ (let is_off = rw w.if-not-was_down.true at off in cc) | else-not-was_down w ↦ rw w.self-is refl ]))

pub returns-clause-call : goal.returns-clause-call
returns-clause-call c = rw (sym c.if-is_err.false ∙ c.is_err.ensures.value) (c.begin_call-begun.ensures.call _ _
    (λ off. elim c.if-not-was_down.branch [ then-not-was_down w ↦ (let is_off = rw w.if-not-was_down.true at off in cc) | else-not-was_down w ↦ rw w.self-is refl ]))
