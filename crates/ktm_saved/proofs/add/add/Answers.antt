use Rattle.std.proofs.Common.{◌≡◌, ◌∙◌, [], Ok, ap, subst, sym}
use Rattle.ktm_base.specs.declared.id.Id.{Id}
use Rattle.ktm_saved.specs.Tests.{AreGoodSoFar, against_of}
use Rattle.ktm_saved.proofs.Refused.{none-room}
use Rattle.ktm_saved.proofs.SoFar.{alone-from, good-more, held-more, kept-alone, none-last, with-last}
use Rattle.ktm_saved.proofs.add.add.Goals as goal
use Rattle.ktm_waiting.specs.Table.{changes_at}
use Rattle.ktm_waiting.specs.Waiting.{AreHeld}
use Rattle.ktm_waiting.proofs.offered.Keeping.{kept-form}
use Rattle.ktm_waiting.proofs.offered.Reserving.{HoldsPart, held-idle}
use Rattle.ktm_world.specs.Changes.{changes_apply, has_changes}
use Rattle.ktm_world.specs.Durable.{Recorded, are_recorded_changes, changes_of}
use Rattle.ktm_world.specs.Holds.{holds_by}
use Rattle.txf_reserve.specs.ReserveState.{IsSameHold, holds_in}

pub hold_changes-requires-clause-recorded : goal.hold_changes-requires-clause-recorded
hold_changes-requires-clause-recorded c some =
    let a = against_of c.args.head.now in
    let t = c.args.transaction in
    let behind = c.in_ok-is_good_behind.ensures.good (ap Ok c.if-not-branch.false) in
    let same : c.changes_of.result.now ≡ changes_of t = (rw c.deref.ensures.value at c.changes_of.ensures) ∙ ap changes_of c.transaction.view_is in
    ap are_recorded_changes same ∙ kept-form t (alone-from a t behind.alone).changes (sym (ap has_changes same) ∙ some)

pub hold_changes-requires-clause-apply : goal.hold_changes-requires-clause-apply
hold_changes-requires-clause-apply c =
    let a = against_of c.args.head.now in
    let t = c.args.transaction in
    let behind = c.in_ok-is_good_behind.ensures.good (ap Ok c.if-not-branch.false) in
    let same : c.changes_of.result.now ≡ changes_of t = (rw c.deref.ensures.value at c.changes_of.ensures) ∙ ap changes_of c.transaction.view_is in
    ap (changes_apply a.tree) same ∙ (alone-from a t behind.alone).apply

pub hold_changes-requires-clause-none : goal.hold_changes-requires-clause-none
hold_changes-requires-clause-none c some =
    let a = against_of c.args.head.now in
    let ts = c.args.transactions.now.transactions in
    let behind = c.in_ok-is_good_behind.ensures.good (ap Ok c.if-not-branch.false) in
    let t = c.args.transaction in
    subst (λ (id : Id). IsSameHold (holds_in c.args.waiting.now id) (holds_by [] [] [])) (sym (ap (λ (u : Recorded). u.id) c.transaction.view_is))
    (held-idle c.args.waiting.now a.tree ts t.id c.requires.held (ap changes_at (none-last ts t.id behind.last)))

pub add-requires-clause-kept : goal.add-requires-clause-kept
add-requires-clause-kept c =
    let a = against_of c.args.head.now in
    let behind = c.in_ok-is_good_behind.ensures.good (ap Ok c.if-not-branch.false) in
    kept-alone a c.args.transaction (alone-from a c.args.transaction behind.alone)

pub add-requires-clause-new : goal.add-requires-clause-new
add-requires-clause-new c =
    let behind = c.in_ok-is_good_behind.ensures.good (ap Ok c.if-not-branch.false) in
    none-last c.args.transactions.now.transactions c.args.transaction.id behind.last

pub returns-clause-added : goal.returns-clause-added
returns-clause-added c ok =
    let a = against_of c.args.head.now in
    let ts = c.args.transactions.now.transactions in
    let t = c.args.transaction in
    let r = c.args.waiting.now in
    let r' = c.hold_changes.new.waiting in
    let behind = c.in_ok-is_good_behind.ensures.good (ap Ok c.if-not-branch.false) in
    let same : c.changes_of.result.now ≡ changes_of t = (rw c.deref.ensures.value at c.changes_of.ensures) ∙ ap changes_of c.transaction.view_is in
    let holds = subst (λ (id : Id). HoldsPart r r' a.tree id (changes_of t)) (ap (λ (u : Recorded). u.id) c.transaction.view_is) (subst (HoldsPart r r' a.tree c.transaction.inside.id) same c.in_ok-hold_changes.ensures.ok) in
    let is = c.add.ensures.added ok ∙ with-last ts t behind.last in
    record {
      is = is;
      good = subst (AreGoodSoFar a) (sym is) (good-more a ts t c.requires.good behind);
      held = subst (AreHeld r' a.tree) (sym is) (held-more r r' a ts t c.requires.good behind c.requires.held holds);
    }

pub returns-clause-refused : goal.returns-clause-refused
returns-clause-refused c refused =
    let behind = c.in_ok-is_good_behind.ensures.good (ap Ok c.if-not-branch.false) in
    none-room (against_of c.args.head.now) c.args.transactions.now.transactions c.args.transaction behind.last (c.add.ensures.refused refused)
