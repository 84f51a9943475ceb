use Rattle.std.proofs.Common.{◌≤◌, Some, ap, sym, subst, ◌∙◌}
use Rattle.ktm_world.specs.FileOutcome.{files_after}
use Rattle.txf_opens.specs.Acts.{open_of}
use Rattle.std.specs.Option.{option_map}
use Rattle.ktm_memory.specs.Memory.{LayersNow, MemoryState, held, now_of}
use Rattle.ktm_memory.specs.Routed.{IsFreeLabel}
use Rattle.ktm_memory.proofs.FilesDecided.{may_bind, opens_some, own_decided}
use Rattle.txf_volume.specs.Transacted.{HasRoom}
use Rattle.ktm_memory.proofs.offered.Takes.{gave_up}
use Rattle.ktm_memory.proofs.memory.Memory.decide_own.Goals as goal

pub returns-clause-ok : goal.returns-clause-ok
returns-clause-ok c = λ events holds.
    let then = ap held c.self.view_is ∙ c.in_ok-reserve_for.ensures.same in
    let after : MemoryState = record { is_up = c.self.inside.is_up; journal = c.self.inside.journal; handles = c.self.inside.handles; tm = c.self.inside.tm; trace = c.self.inside.trace; files = c.keep.new.self; next_node = c.self.inside.next_node; keys = c.self.inside.keys } in
    let reply = c.replace-reply.ensures.value ∙ ap (λ p. p.reply) c.plan.view_is in
    rw (c.binding.ensures, reply) (own_decided (held c.args.self.now) after c.args.process c.args.id c.args.label c.args.plan c.plan.inside.opened events c.requires.standing c.requires.active
    (ap (λ files. record { is_up = c.self.inside.is_up; journal = c.self.inside.journal; handles = c.self.inside.handles.handles; boot = c.self.inside.tm.boot; transactions = c.self.inside.tm.now; managers = c.self.inside.tm.managers; traces = c.self.inside.trace; files = files; next_node = c.self.inside.next_node; keys = c.self.inside.keys }) c.in_ok-keep.ensures.done
    ∙ ap (λ (h : LayersNow). record h { files = files_after h.files (Some c.args.id) (record { reply = c.plan.inside.reply; change = c.plan.inside.change; first = c.plan.inside.first; opened = option_map open_of c.plan.inside.opened }) }) then
    ∙ ap (λ p. record (held c.args.self.now) { files = files_after (held c.args.self.now).files (Some c.args.id) p }) c.plan.view_is)
    (ap (λ p. p.opened) c.plan.view_is)
    (may_bind after c.args.process c.args.label c.plan.inside.opened (λ some. subst (λ m. 1 ≤ m.handles.spare) (sym c.self.view_is) (c.in_ok-reserve_for.ensures.room some))
    (subst (λ (h : LayersNow). IsFreeLabel (now_of h) c.args.process c.args.label) (sym then) c.requires.free))
    holds)

pub returns-in_err-reserve_for-clause-enough : goal.returns-in_err-reserve_for-clause-enough
returns-in_err-reserve_for-clause-enough c = λ room unchanged spare.
    gave_up (c.in_err-reserve_for.ensures.enough (λ some. spare (opens_some c.plan.inside.opened c.args.plan.opened (ap (λ p. p.opened) c.plan.view_is) some)))

pub returns-in_err-keep-clause-enough : goal.returns-in_err-keep-clause-enough
returns-in_err-keep-clause-enough c = λ room unchanged spare.
    gave_up (c.in_err-keep.ensures.enough (subst HasRoom (sym (ap (λ (m : MemoryState). m.files) c.self.view_is ∙ c.in_ok-reserve_for.ensures.files)) room) (ap (λ p. p.change) c.plan.view_is ∙ unchanged))
