use Rattle.std.proofs.Common.{◌≡◌, ◌∙◌, true, ap, sym}
use Rattle.std.specs.List.{list_all}
use Rattle.ktm_saved.specs.Tests.{against_of}
use Rattle.ktm_saved.proofs.Passed.{changes-ok}
use Rattle.ktm_saved.proofs.alone.has_good_changes.Goals as goal
use Rattle.txf_laws.specs.GoodState.{are_kept_changes}
use Rattle.ktm_waiting.proofs.offered.Keeping.{kept-form}
use Rattle.ktm_world.specs.Changes.{has_changes}
use Rattle.ktm_world.specs.Durable.{are_recorded_changes, changes_of}
use Rattle.txf_laws.specs.Contents.{is_made_below}

pub would_apply-requires : goal.would_apply-requires
would_apply-requires c some =
    let t = c.args.transaction.now in
    let gathered = rw c.deref.ensures.value at c.changes_of-changes.ensures in
    let same : c.changes_of-changes.result.now ≡ changes_of t = gathered ∙ ap changes_of c.transaction.view_is in
    let kept : are_kept_changes t ≡ true = sym c.in_ok-are_kept_changes.ensures ∙ c.if-not-branch.false in
    ap are_recorded_changes same ∙ kept-form t kept (sym (ap has_changes same) ∙ some)

pub returns : goal.returns
returns c =
    let t = c.args.transaction.now in
    let gathered = rw c.deref.ensures.value at c.changes_of-changes.ensures in
    let same : c.changes_of-changes.result.now ≡ changes_of t = gathered ∙ ap changes_of c.transaction.view_is in
    let kept : are_kept_changes t ≡ true = sym c.in_ok-are_kept_changes.ensures ∙ c.if-not-branch.false in
    let cs = c.changes_of-changes.result.now in
    let made = ap (λ n. list_all (is_made_below n) cs) (sym c.next_node.ensures) ∙ sym c.if-not-are_made_below.ensures in
    changes-ok c.would_apply.result (against_of c.args.head.now) t cs same kept (sym c.if-not-put_some.ensures) made c.would_apply.ensures
