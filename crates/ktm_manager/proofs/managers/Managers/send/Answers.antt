use Rattle.std.proofs.Common.{sym, ap, arith, length, ◌≡◌, rules, ◌∙◌, is_some, false}
use Rattle.ktm_manager.specs.declared.managers.Listed.{Listed}
use Rattle.ktm_manager.specs.Managers.{managers_in}
use Rattle.ktm_world.specs.Enlistments.{manager_at}
use Rattle.ktm_manager.proofs.offered.Places.{within}
use Rattle.ktm_manager.proofs.Serving.{no_manager, sent_at}
use Rattle.ktm_manager.proofs.managers.Managers.send.Goals as goal

pub unreachable-requires : goal.unreachable-requires
unreachable-requires c =
    let there = rw (← c.self.view_is) at c.requires.there in
    let none = no_manager c.self.inside.listed.items c.self.inside.queues.queues c.args.id (rw c.deref.ensures.value at c.in_default.ensures) in
    let absent : is_some (manager_at (managers_in c.self.inside.listed.items c.self.inside.queues.queues) c.args.id) ≡ false = ap is_some none in
    cc

pub send-requires-clause-there : goal.send-requires-clause-there
send-requires-clause-there c =
    let inside = within (λ (x : Listed). x.id) _ _ _ (rw c.deref.ensures.value at c.in-Some.ensures) in
    omega (arith, c.self.invariant.1, inside)

pub returns-clause-managers : goal.returns-clause-managers
returns-clause-managers c = rw (← c.self.view_is, c.send.ensures.queues) (sent_at _ _ _ _ _ c.self.invariant.1 (rw c.deref.ensures.value at c.in-Some.ensures))
