use Rattle.std.proofs.Common.{◌≤◌, None, ap, sym, subst, ◌∙◌}
use Rattle.std.specs.Option.{option_map}
use Rattle.ktm_world.specs.declared.reply.Reply.TheVariants.{Done}
use Rattle.ktm_world.specs.FileOutcome.{FileOutcome}
use Rattle.ktm_world.specs.Files.{FilesNow}
use Rattle.txf_opens.specs.Acts.{open_of}
use Rattle.txf_volume.specs.Plain.{IsReady}
use Rattle.ktm_memory.specs.Memory.{MemoryState, held, present_of}
use Rattle.ktm_memory.proofs.FilesDecided.{may_settle, opens_some, plain_decided}
use Rattle.ktm_memory.proofs.offered.Takes.{gave_up}
use Rattle.ktm_memory.proofs.memory.Memory.decide_plain.Goals as goal

pub returns-clause-ok : goal.returns-clause-ok
returns-clause-ok c =
    let plan = c.plan.view_is ∙ c.record_plan-plan.ensures.same in
    let reserved = ap held c.self.view_is ∙ c.in_ok-reserve_for.ensures.same in
    let after : MemoryState = record { is_up = c.self.inside.is_up; journal = c.self.inside.journal; handles = c.self.inside.handles; tm = c.self.inside.tm; trace = c.self.inside.trace; files = c.prepare.new.self; next_node = c.self.inside.next_node; keys = c.self.inside.keys } in
    let same =
    ap (λ (files : FilesNow). record { is_up = c.self.inside.is_up; journal = c.self.inside.journal; handles = c.self.inside.handles.handles; boot = c.self.inside.tm.boot; transactions = c.self.inside.tm.now; managers = c.self.inside.tm.managers; traces = c.self.inside.trace; files = files; next_node = c.self.inside.next_node; keys = c.self.inside.keys }) c.in_ok-ready.ensures.same
    ∙ reserved in
    plain_decided (held c.args.self.now) after c.args.process c.args.label c.args.plan c.replace-reply.result _ c.in_ok-ready.ready c.record_plan-plan.new.events
    (c.replace-reply.ensures.value ∙ ap (λ (p : FileOutcome). p.reply) plan)
    (ap (λ reply. record { reply = reply; change = c.plan.inside.change; first = c.plan.inside.first; opened = option_map open_of c.plan.inside.opened }) c.replace-reply.ensures.after ∙ ap (λ (p : FileOutcome). record p { reply = Done }) plan)
    same
    (may_settle (held c.args.self.now) after c.args.process c.args.label c.args.plan c.plan.inside.opened c.in_ok-ready.ready same c.requires.may c.requires.units
    (subst (λ (p : FileOutcome). IsReady c.prepare.new.self p c.in_ok-ready.ready) c.record_plan-plan.ensures.same c.in_ok-ready.ensures.ready)
    (ap (λ (p : FileOutcome). p.opened) plan)
    (λ some. subst (λ m. 1 ≤ m.handles.spare) (sym c.self.view_is) (c.in_ok-reserve_for.ensures.room some))
    c.requires.free)
    (c.record_plan-plan.ensures.records (present_of c.args.self.now).recorded c.requires.can) c.requires.answers

pub returns-in_err-reserve_for-clause-enough : goal.returns-in_err-reserve_for-clause-enough
returns-in_err-reserve_for-clause-enough c = λ ready spare.
    gave_up (c.in_err-reserve_for.ensures.enough (λ some. spare (opens_some c.plan.inside.opened c.args.plan.opened (ap (λ (p : FileOutcome). p.opened) (c.plan.view_is ∙ c.record_plan-plan.ensures.same)) some)))

pub returns-in_err-ready-clause-enough : goal.returns-in_err-ready-clause-enough
returns-in_err-ready-clause-enough c = λ ready spare.
    gave_up (c.in_err-ready.ensures.enough
    (subst (λ files. IsReady files c.record_plan-plan.result None) (sym (ap (λ (m : MemoryState). m.files) c.self.view_is ∙ c.in_ok-reserve_for.ensures.files))
    (subst (λ (p : FileOutcome). IsReady c.args.self.now.files p None) (sym c.record_plan-plan.ensures.same) ready)))

pub record_plan-plan-requires-clause-can : goal.record_plan-plan-requires-clause-can
record_plan-plan-requires-clause-can c = ((present_of c.args.self.now).files.tree, c.requires.can)
