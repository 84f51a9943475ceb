use Rattle.std.proofs.Common.{refl}
use Rattle.ktm_memory.specs.Memory.{held}
use Rattle.ktm_memory.proofs.ObjectsDecided.{recovery_decided}
use Rattle.ktm_memory.proofs.memory.Memory.decide_recovery.Goals as goal

pub returns-clause-ok : goal.returns-clause-ok
returns-clause-ok c = λ process events holds.
    recovery_decided (held c.args.self.now) _ c.args.manager events
    (rw (← c.self.view_is) (rw (c.in_ok-reserve_recovery.ensures.now.boot, c.in_ok-reserve_recovery.ensures.now.now, c.in_ok-reserve_recovery.ensures.now.managers) refl)) c.requires.there holds
