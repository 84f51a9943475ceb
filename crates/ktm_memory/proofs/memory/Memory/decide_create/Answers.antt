use Rattle.std.proofs.Common.{◌≡◌, ◌≤◌, ◌||◌, true, List, [], refl, ap, subst, sym, ◌∙◌}
use Rattle.std.proofs.lemmas.Bool.{or_from, or_left, or_right}
use Rattle.ktm_base.specs.declared.refusal.Refusal.TheVariants.{NotEnoughQuota}
use Rattle.ktm_world.specs.declared.object.Handle.{Handle}
use Rattle.ktm_tm.specs.TmState.{next_id}
use Rattle.ktm_world.specs.Handles.{no_handle_left, object_at}
use Rattle.ktm_world.specs.TransactionCalls.{create_transaction, no_transaction_left}
use Rattle.ktm_world.specs.declared.reply.Reply.TheVariants.{Refused}
use Rattle.ktm_memory.specs.Memory.{held, present_of}
use Rattle.ktm_memory.proofs.Decides.{create_decided, create_says}
use Rattle.ktm_memory.proofs.offered.Decided.{only_decided}
use Rattle.ktm_memory.proofs.offered.Tests.{test_passes, test_refuses}
use Rattle.ktm_memory.proofs.memory.Memory.decide_create.Goals as goal
use Rattle.ktm_memory.proofs.offered.Takes.{gave_up, not_refused}
use Rattle.ktm_memory.proofs.memory.Memory.decide_create.Goals.{then-is_full-via-then-is_full, then-is_full-via-else-is_full+then-is_full-2}

pub returns-then-is_full-clause-ok : goal.returns-then-is_full-clause-ok
returns-then-is_full-clause-ok c = λ events holds.
    let passed : (no_handle_left c.self.inside.handles.handles || no_transaction_left c.self.inside.tm.now) ≡ true = elim c.then-is_full.branch [
      | then-is_full-via-then-is_full w ↦ or_left _ _ (sym c.is_full.ensures ∙ w.if-is_full.true)
      | then-is_full-via-else-is_full+then-is_full-2 w ↦ or_right _ _ (sym w.is_full-else-is_full.ensures ∙ w.if-is_full-2.true)
    ] in
    let full = ap (λ m. no_handle_left m.handles.handles || no_transaction_left m.tm.now) (sym c.self.view_is) ∙ passed in
    let x = present_of c.args.self.now in
    rw c.requires.nothing (only_decided c.args.self.now _ (Refused NotEnoughQuota) events
    (test_refuses x _ NotEnoughQuota [] (create_transaction x c.args.process c.args.label c.args.timeout) full) holds)

pub returns-clause-ok : goal.returns-clause-ok
returns-clause-ok c = λ events holds.
    let handles = ap (λ m. no_handle_left m.handles.handles) (sym c.self.view_is) ∙ sym c.is_full.ensures ∙ c.if-is_full.false in
    let transactions = ap (λ m. no_transaction_left m.tm.now) (sym c.self.view_is) ∙ sym c.is_full-else-is_full.ensures ∙ c.if-is_full-2.false in
    let id = c.next_id-id.ensures ∙ ap (λ boot. next_id boot c.reserve.new.self.now) c.in_ok-reserve.ensures.boot ∙ ap (λ now. next_id c.self.inside.tm.boot now) c.in_ok-reserve.ensures.now ∙ ap (λ m. next_id m.tm.boot m.tm.now) c.self.view_is in
    let x = present_of c.args.self.now in
    create_decided (held c.args.self.now) _ c.args.process c.args.label c.args.timeout _ events
    (create_says (held c.args.self.now) c.args.process c.args.label c.args.timeout c.guid.result c.image.result c.next_id-id.result c.guid.ensures (c.image.ensures ∙ ap (λ m. m.journal.image) c.self.view_is) id)
    (rw (← c.self.view_is) (rw (c.in_ok-reserve-2.ensures.handles, c.in_ok-reserve.ensures.boot, c.in_ok-reserve.ensures.now, c.in_ok-reserve.ensures.rest.managers) refl)) (
      c.in_ok-reserve.ensures.room,
      c.in_ok-reserve-2.ensures.room,
      ap no_transaction_left (c.in_ok-reserve.ensures.now ∙ ap (λ m. m.tm.now) c.self.view_is) ∙ transactions,
      ap (λ (hs : List Handle). object_at hs c.args.process c.args.label) (c.in_ok-reserve-2.ensures.handles ∙ ap (λ m. m.handles.handles) c.self.view_is) ∙ c.requires.free,
    )
    holds _ (test_passes x _ NotEnoughQuota [] (create_transaction x c.args.process c.args.label c.args.timeout) (or_from _ _ handles transactions))

pub returns-in_err-reserve-clause-enough : goal.returns-in_err-reserve-clause-enough
returns-in_err-reserve-clause-enough c = λ none.
    let handles = ap (λ m. no_handle_left m.handles.handles) (sym c.self.view_is) ∙ sym c.is_full.ensures ∙ c.if-is_full.false in
    let transactions = ap (λ m. no_transaction_left m.tm.now) (sym c.self.view_is) ∙ sym c.is_full-else-is_full.ensures ∙ c.if-is_full-2.false in
    absurd (not_refused _ NotEnoughQuota (or_from _ _ handles transactions) none)

pub returns-in_err-reserve-2-clause-enough : goal.returns-in_err-reserve-2-clause-enough
returns-in_err-reserve-2-clause-enough c = λ none.
    let handles = ap (λ m. no_handle_left m.handles.handles) (sym c.self.view_is) ∙ sym c.is_full.ensures ∙ c.if-is_full.false in
    let transactions = ap (λ m. no_transaction_left m.tm.now) (sym c.self.view_is) ∙ sym c.is_full-else-is_full.ensures ∙ c.if-is_full-2.false in
    absurd (not_refused _ NotEnoughQuota (or_from _ _ handles transactions) none)

pub returns-in_err-reserve-clause-spare : goal.returns-in_err-reserve-clause-spare
returns-in_err-reserve-clause-spare c = λ room spare. gave_up (c.in_err-reserve.ensures.enough (subst (λ m. 1 ≤ m.tm.room) (sym c.self.view_is) room))

pub returns-in_err-reserve-2-clause-spare : goal.returns-in_err-reserve-2-clause-spare
returns-in_err-reserve-2-clause-spare c = λ room spare. gave_up (c.in_err-reserve-2.ensures.enough (subst (λ m. 1 ≤ m.handles.spare) (sym c.self.view_is) spare))
