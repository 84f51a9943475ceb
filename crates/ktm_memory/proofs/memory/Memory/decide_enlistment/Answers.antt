use Rattle.std.proofs.Common.{◌≤◌, ◌+◌, is_some, List, [], refl, ap, subst, sym, ◌∙◌, arith}
use Rattle.std.proofs.lemmas.Bool.{or_from}
use Rattle.ktm_base.specs.declared.refusal.Refusal.TheVariants.{NotEnoughQuota}
use Rattle.ktm_world.specs.declared.object.Handle.{Handle}
use Rattle.ktm_slots.specs.Slots.{granted_in}
use Rattle.ktm_tm.specs.TmState.{id_after}
use Rattle.ktm_world.specs.Enlistments.{manager_at}
use Rattle.ktm_world.specs.Handles.{no_handle_left, object_at}
use Rattle.ktm_world.specs.TransactionCalls.{create_enlistment, no_enlistment_left}
use Rattle.ktm_world.specs.Transactions.{transaction_at}
use Rattle.ktm_memory.specs.Memory.{held, present_of}
use Rattle.ktm_memory.proofs.ObjectsDecided.{enlisting_grants, enlistment_decided}
use Rattle.ktm_memory.proofs.offered.Tests.{test_passes}
use Rattle.ktm_memory.proofs.offered.Takes.{not_refused}
use Rattle.ktm_memory.proofs.memory.Memory.decide_enlistment.Goals as goal

pub returns-in_err-reserve_enlistment-clause-enough : goal.returns-in_err-reserve_enlistment-clause-enough
returns-in_err-reserve_enlistment-clause-enough c = λ none.
    let handles = ap (λ m. no_handle_left m.handles.handles) (sym c.self.view_is) ∙ sym c.is_full.ensures ∙ c.if-is_full.false in
    let enlistments = ap (λ m. no_enlistment_left m.tm.now) (sym c.self.view_is) ∙ sym c.is_full_of_enlistments.ensures ∙ c.if-is_full_of_enlistments.false in
    absurd (not_refused _ NotEnoughQuota (or_from _ _ handles enlistments) none)

pub returns-in_err-reserve-clause-enough : goal.returns-in_err-reserve-clause-enough
returns-in_err-reserve-clause-enough c = λ none.
    let handles = ap (λ m. no_handle_left m.handles.handles) (sym c.self.view_is) ∙ sym c.is_full.ensures ∙ c.if-is_full.false in
    let enlistments = ap (λ m. no_enlistment_left m.tm.now) (sym c.self.view_is) ∙ sym c.is_full_of_enlistments.ensures ∙ c.if-is_full_of_enlistments.false in
    absurd (not_refused _ NotEnoughQuota (or_from _ _ handles enlistments) none)

pub returns-clause-ok : goal.returns-clause-ok
returns-clause-ok c = λ events holds.
    let handles = ap (λ m. no_handle_left m.handles.handles) (sym c.self.view_is) ∙ sym c.is_full.ensures ∙ c.if-is_full.false in
    let enlistments = ap (λ m. no_enlistment_left m.tm.now) (sym c.self.view_is) ∙ sym c.is_full_of_enlistments.ensures ∙ c.if-is_full_of_enlistments.false in
    let kept = c.in_ok-reserve_enlistment.ensures.now in
    let x = present_of c.args.self.now in
    let o = create_enlistment x c.args.process c.args.label (manager_at x.managers c.args.manager) (transaction_at x.transactions.items c.args.transaction) c.args.kind in
    enlistment_decided (held c.args.self.now) _ c.args.process c.args.label c.args.manager c.args.transaction c.args.kind c.guid.result c.image.result c.next_enlistment_id-id.result events
    c.guid.ensures (c.image.ensures ∙ ap (λ m. m.journal.image) c.self.view_is)
    (c.next_enlistment_id-id.ensures ∙ ap (λ boot. id_after boot c.reserve_enlistment.new.self.now.last_enlistment) kept.boot ∙ ap (λ now. id_after c.self.inside.tm.boot now.last_enlistment) kept.now ∙ ap (λ m. id_after m.tm.boot m.tm.now.last_enlistment) c.self.view_is)
    c.requires.manager c.requires.transaction
    (rw (← c.self.view_is) (rw (c.in_ok-reserve.ensures.handles, kept.boot, kept.now, kept.managers) refl)) (
      c.in_ok-reserve_enlistment.ensures.room,
      c.in_ok-reserve.ensures.room,
      ap no_enlistment_left (kept.now ∙ ap (λ m. m.tm.now) c.self.view_is) ∙ enlistments,
      ap (λ (hs : List Handle). object_at hs c.args.process c.args.label) (c.in_ok-reserve.ensures.handles ∙ ap (λ m. m.handles.handles) c.self.view_is) ∙ c.requires.free,
      ap (λ ms. is_some (manager_at ms c.args.manager)) (kept.managers ∙ ap (λ m. m.tm.managers) c.self.view_is) ∙ c.requires.manager,
      ap (λ now. is_some (transaction_at now.items c.args.transaction)) (kept.now ∙ ap (λ m. m.tm.now) c.self.view_is) ∙ c.requires.transaction,
    )
    holds _ (test_passes x _ NotEnoughQuota [] o (or_from _ _ handles enlistments))

pub returns-clause-slots : goal.returns-clause-slots
returns-clause-slots c =
    let handles = ap (λ m. no_handle_left m.handles.handles) (sym c.self.view_is) ∙ sym c.is_full.ensures ∙ c.if-is_full.false in
    let enlistments = ap (λ m. no_enlistment_left m.tm.now) (sym c.self.view_is) ∙ sym c.is_full_of_enlistments.ensures ∙ c.if-is_full_of_enlistments.false in
    let x = present_of c.args.self.now in
    let m = manager_at x.managers c.args.manager in
    let t = transaction_at x.transactions.items c.args.transaction in
    let o = create_enlistment x c.args.process c.args.label m t c.args.kind in
    let same = ap (granted_in x) (test_passes x _ NotEnoughQuota [] o (or_from _ _ handles enlistments)) in
    let few = enlisting_grants x c.args.process c.args.label m t c.args.kind in
    let slots : c.args.self.now.tm.slots + 5 ≤ c.reserve_enlistment.new.self.slots = subst (λ m. m.tm.slots + 5 ≤ c.reserve_enlistment.new.self.slots) c.self.view_is c.in_ok-reserve_enlistment.ensures.slots in
    omega (arith, same, few, slots)
