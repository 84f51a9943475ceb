use Rattle.std.proofs.Common.{append_assoc, subst}
use Rattle.std.proofs.lemmas.List.Elements.{All-tail}
use Rattle.ktm_event.specs.Kept.{Holds}
use Rattle.ktm_event.specs.Spelling.{IsSpellableEvent}
use Rattle.ktm_restart.proofs.durable.Durable.own_group.Goals as goal

pub push_all_own-requires-clause-spelled : goal.push_all_own-requires-clause-spelled
push_all_own-requires-clause-spelled c = rw c.transactions.ensures (All-tail IsSpellableEvent _ _ c.requires.spelled)

pub returns-clause-adds : goal.returns-clause-adds
returns-clause-adds c = λ group holds.
    rw (c.transactions.ensures, c.boots.ensures) at (subst (Holds c.push_all_own.new.events) (append_assoc group _ _) (c.push_all_own.ensures.adds _ (c.push_boot.ensures.adds group holds)))
