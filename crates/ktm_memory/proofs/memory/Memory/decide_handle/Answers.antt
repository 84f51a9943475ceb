use Rattle.std.proofs.Common.{◌≤◌, [], refl, ap, subst, sym, ◌∙◌}
use Rattle.ktm_base.specs.declared.refusal.Refusal.TheVariants.{NotEnoughQuota}
use Rattle.ktm_world.specs.declared.reply.Reply.TheVariants.{Refused}
use Rattle.ktm_world.specs.Handles.{no_handle_left}
use Rattle.ktm_memory.specs.Memory.{MemoryState, held, present_of}
use Rattle.ktm_memory.specs.Settled.{labels_outcome}
use Rattle.ktm_memory.proofs.Decides.{handles_decided}
use Rattle.ktm_memory.proofs.offered.Decided.{only_decided}
use Rattle.ktm_memory.proofs.offered.Tests.{test_passes, test_refuses}
use Rattle.ktm_memory.proofs.offered.Takes.{gave_up, not_refused}
use Rattle.ktm_memory.proofs.memory.Memory.decide_handle.Goals as goal

pub returns-then-is_full-clause-ok : goal.returns-then-is_full-clause-ok
returns-then-is_full-clause-ok c = λ events holds.
    let x = present_of c.args.self.now in
    let full = ap (λ m. no_handle_left m.handles.handles) (sym c.self.view_is) ∙ sym c.is_full.ensures ∙ c.if-is_full.true in
    rw c.requires.nothing (only_decided c.args.self.now _ (Refused NotEnoughQuota) events
    (test_refuses x _ NotEnoughQuota [] (labels_outcome x c.args.process c.args.labels) full) holds)

pub returns-clause-ok : goal.returns-clause-ok
returns-clause-ok c = λ events holds.
    let x = present_of c.args.self.now in
    let handles = ap (λ m. no_handle_left m.handles.handles) (sym c.self.view_is) ∙ sym c.is_full.ensures ∙ c.if-is_full.false in
    let n : MemoryState = record { is_up = c.self.inside.is_up; journal = c.self.inside.journal; handles = c.reserve.new.self; tm = c.self.inside.tm; trace = c.self.inside.trace; files = c.self.inside.files; next_node = c.self.inside.next_node; keys = c.self.inside.keys } in
    let same = (rw c.in_ok-reserve.ensures.handles refl) ∙ ap held c.self.view_is in
    handles_decided (held c.args.self.now) n c.args.process c.args.labels events c.requires.done same (c.requires.may n same c.in_ok-reserve.ensures.room) holds _
    (test_passes x _ NotEnoughQuota [] (labels_outcome x c.args.process c.args.labels) handles)

pub returns-in_err-reserve-clause-enough : goal.returns-in_err-reserve-clause-enough
returns-in_err-reserve-clause-enough c = λ none.
    let handles = ap (λ m. no_handle_left m.handles.handles) (sym c.self.view_is) ∙ sym c.is_full.ensures ∙ c.if-is_full.false in
    absurd (not_refused _ NotEnoughQuota handles none)

pub returns-in_err-reserve-clause-spare : goal.returns-in_err-reserve-clause-spare
returns-in_err-reserve-clause-spare c = λ spare. gave_up (c.in_err-reserve.ensures.enough (subst (λ m. 1 ≤ m.handles.spare) (sym c.self.view_is) spare))
