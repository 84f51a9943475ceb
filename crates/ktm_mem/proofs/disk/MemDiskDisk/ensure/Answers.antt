use Rattle.std.proofs.Common.{refl, sym, ◌∙◌}
use Rattle.ktm_mem.proofs.disk.MemDiskDisk.ensure.Goals as goal

pub returns-then-is_err-clause-call : goal.returns-then-is_err-clause-call
returns-then-is_err-clause-call c = rw (sym c.if-is_err.true ∙ c.is_err.ensures.value) (c.begin_call-begun.ensures.call _ _ (λ off. refl))

pub returns-then-len-self-clause-call : goal.returns-then-len-self-clause-call
returns-then-len-self-clause-call c = c.fall.ensures.call _ _ (rw (sym c.if-is_err.false ∙ c.is_err.ensures.value) (c.begin_call-begun.ensures.call _ _ (λ off. refl)))

pub returns-clause-call : goal.returns-clause-call
returns-clause-call c = rw (sym c.if-is_err.false ∙ c.is_err.ensures.value) (c.begin_call-begun.ensures.call _ _ (λ off. refl))
