use Rattle.std.proofs.Common.{refl}
use Rattle.std.proofs.KnownBytes.{Keeps-refl}
use Rattle.ktm_run.proofs.Dumping.{blank, down_at_once, dump_before, some_byte, went_down_later}
use Rattle.ktm_run.proofs.dump.dump_image.Goals as goal

pub returns-in-Err-clause-leaves : goal.returns-in-Err-clause-leaves
returns-in-Err-clause-leaves g c = λ left. down_at_once left _ _ _ _ _ _ c.len.ensures.same refl c.in-Err.ensures.call

pub returns-then-len-eq0-clause-leaves : goal.returns-then-len-eq0-clause-leaves
returns-then-len-eq0-clause-leaves g c = λ left.
    blank left _ _ _ _ _ _ c.in-Ok.len _ c.if-len-eq0.true c.in-Ok.ensures.value c.len.ensures.same c.in-Ok.ensures.call c.write_blank.ensures.says

pub dump_state-requires : goal.dump_state-requires
dump_state-requires g c = rw c.len.ensures.same (some_byte _ c.in-Ok.len c.if-len-eq0.false c.in-Ok.ensures.value)

pub returns-clause-leaves : goal.returns-clause-leaves
returns-clause-leaves g c = λ left.
    dump_before _ _ _ refl (Keeps-refl _) c.len.ensures.same c.in-Ok.ensures.call.counts.plan (λ s. went_down_later _ _ s c.in-Ok.ensures.call) _ (c.dump_state.ensures.leaves left)
