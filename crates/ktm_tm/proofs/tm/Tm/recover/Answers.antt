use Rattle.std.proofs.Common.{◌∙◌, ◌∷◌, ◌++◌, [], List, None, ap, arith, length, length-append, map}
use Rattle.std.specs.Prelude.{is_some}
use Rattle.ktm_base.specs.declared.id.Id.{Id}
use Rattle.ktm_base.specs.declared.notify.Notify.{Notify}
use Rattle.ktm_world.specs.Durable.{is_before}
use Rattle.ktm_world.specs.Enlistments.{Manager, Sent, manager_at}
use Rattle.ktm_world.specs.Outcome.{served}
use Rattle.ktm_manager.proofs.offered.Served.{served_twice, there_served}
use Rattle.ktm_tm.specs.Recovery.{recover_notes, recovers}
use Rattle.ktm_tm.specs.TmState.{TmState, id_after}
use Rattle.ktm_tm.proofs.Carrying.{there_all}
use Rattle.ktm_tm.proofs.Next.{served_before}
use Rattle.ktm_tm.proofs.tm.Tm.recover.Goals as goal

-- the notification that these were all
abbrev last_note : Id → Sent
last_note manager = record { manager = manager; note = record { kind = Notify.LastRecover; enlistment = None } }

pub send-requires-clause-there : goal.send-requires-clause-there
send-requires-clause-there c =
    ap (λ (ms : List Manager). is_some (manager_at ms c.args.manager)) c.tell_each.ensures.managers ∙ there_served None _ c.self.inside.managers.managers c.args.manager
    ∙ ap (λ (s : TmState). is_some (manager_at s.managers c.args.manager)) c.self.view_is ∙ c.requires.there

pub send-requires-clause-spare : goal.send-requires-clause-spare
send-requires-clause-spare c =
    let told = c.brought_back.ensures c.self.inside.transactions.items c.args.manager in
    let now = ap (λ (s : TmState). length (recovers s.now.items c.args.manager s.now.enlistments)) c.self.view_is in
    omega (arith, ap length told, now, c.tell_each.ensures.spare, c.requires.slots, ap (λ (s : TmState). s.slots) c.self.view_is, length-append (recovers c.args.self.now.now.items c.args.manager c.args.self.now.now.enlistments) (last_note c.args.manager ∷ []))

pub invariant_of-self : goal.invariant_of-self
invariant_of-self c =
    let test = λ (id : Id). is_before id (id_after c.self.inside.transactions.boot c.self.inside.last_manager) in (
      rw (c.send.ensures.managers, c.tell_each.ensures.managers)
          (served_before test None (last_note c.args.manager ∷ []) _ ∙ served_before test None _ c.self.inside.managers.managers ∙ c.self.invariant.0),
      c.self.invariant.1,
      rw (c.send.ensures.managers, c.tell_each.ensures.managers)
          (there_all None (last_note c.args.manager ∷ []) _ c.self.inside.enlistments.enlistments ∙ there_all None _ c.self.inside.managers.managers c.self.inside.enlistments.enlistments ∙ c.self.invariant.2),
      c.self.invariant.3,
      c.self.invariant.4,
      c.self.invariant.5,
    )

pub returns-clause-managers : goal.returns-clause-managers
returns-clause-managers c =
    let last = last_note c.args.manager ∷ [] in
    let told = c.brought_back.ensures c.self.inside.transactions.items c.args.manager in
    c.send.ensures.managers ∙ ap (map (served None last)) c.tell_each.ensures.managers ∙ served_twice _ last c.self.inside.managers.managers
    ∙ ap (λ (l : List Sent). map (served None (l ++ last)) c.self.inside.managers.managers) told
    ∙ ap (λ (s : TmState). map (served None (recover_notes s.now c.args.manager)) s.managers) c.self.view_is
