use Rattle.std.proofs.Common.{inl}
use Rattle.ktm_kernel.proofs.Openings.{down_or_settled, not_opened, not_prepared, opens, refused_down}
use Rattle.ktm_kernel.proofs.open.open_kernel.Goals as goal

pub returns-in-Ok-clause-leaves : goal.returns-in-Ok-clause-leaves
returns-in-Ok-clause-leaves g c =
    opens c.law_of_states.ensures.states c.law_of_bad_images.ensures _ _ _ _ _ _ _ _ c.in_default.ensures.ok c.in_default.ensures.calls c.in-Ok.restarted c.in-Ok.ensures.leaves c.in-Ok.ensures.calls c.in-Ok.ensures.few

pub returns-in-Err-clause-leaves : goal.returns-in-Err-clause-leaves
returns-in-Err-clause-leaves g c = not_prepared _ _ _ _ _ c.in-Err.ensures.err c.in-Err.ensures.calls

pub returns-clause-leaves : goal.returns-clause-leaves
returns-clause-leaves g c = rw c.open_fault.ensures
    (not_opened c.law_of_states.ensures.states c.law_of_bad_images.ensures _ _ _ _ _ _ _ _ c.in_default.ensures.ok c.in_default.ensures.calls _ c.in-Err-restart.fault c.in-Err-restart.ensures.leaves c.in-Err-restart.ensures.calls)

pub returns-in-Err-clause-pending : goal.returns-in-Err-clause-pending
returns-in-Err-clause-pending g c = inl (refused_down _ _ _ c.in-Err.ensures.calls)

pub returns-clause-pending : goal.returns-clause-pending
returns-clause-pending g c = down_or_settled _ _ _ _ _ _ _ c.in-Err-restart.fault c.in_default.ensures.pending c.in-Err-restart.ensures.leaves c.in-Err-restart.ensures.calls
