use Rattle.std.proofs.Common.{◌≡◌, ◌∙◌, ◌&&◌, not, true, false, List, None, ap, subst, sym}
use Rattle.std.proofs.lemmas.Bool.{and_parts, not-true}
use Rattle.ktm_saved.specs.Tests.{against_of}
use Rattle.ktm_saved.proofs.Passed.{good-beside}
use Rattle.ktm_saved.proofs.Refused.{none-known, none-met, none-set}
use Rattle.ktm_saved.proofs.SoFar.{alone-from}
use Rattle.ktm_saved.proofs.beside.is_good_beside.Goals as goal
use Rattle.ktm_waiting.specs.Waiting.{others_set}
use Rattle.ktm_waiting.proofs.offered.Keeping.{kept-form}
use Rattle.ktm_world.specs.Changes.{changes_apply, has_changes}
use Rattle.ktm_world.specs.Durable.{Recorded, are_recorded_changes, changes_of, settings_of}
use Rattle.txf_durable.specs.Waiting.{is_met}
use Rattle.txf_laws.specs.Elements.{IsIn}
use Rattle.txf_laws.proofs.offered.Elements.{not-not}
use Rattle.txf_tree.specs.TreeState.{tree_of}

pub others_set-requires-clause-parts : goal.others_set-requires-clause-parts
others_set-requires-clause-parts c t there = (alone-from (against_of c.args.head.now) t (c.requires.good.each t (subst (λ (ts : List Recorded). IsIn t ts) c.as_slice.ensures there))).parts

pub others_set-requires-clause-kept : goal.others_set-requires-clause-kept
others_set-requires-clause-kept c t there = (alone-from (against_of c.args.head.now) t (c.requires.good.each t (subst (λ (ts : List Recorded). IsIn t ts) c.as_slice.ensures there))).settings

pub returns-then-has_known_enlistment-clause-bad : goal.returns-then-has_known_enlistment-clause-bad
returns-then-has_known_enlistment-clause-bad c _ = none-known (against_of c.args.head.now) c.args.transactions.now.transactions c.args.transaction.now (sym c.if-has_known_enlistment.ensures)

pub returns-then-others_set-clause-bad : goal.returns-then-others_set-clause-bad
returns-then-others_set-clause-bad c _ =
    let settings = (rw c.deref.ensures.value at c.settings_of.ensures) ∙ ap settings_of c.transaction.view_is in
    none-set (against_of c.args.head.now) c.args.transactions.now.transactions c.args.transaction.now ((λ i. others_set None (sym settings i) (sym c.as_slice.ensures i)) ∙ sym c.if-others_set.ensures)

pub meets-requires-clause-recorded : goal.meets-requires-clause-recorded
meets-requires-clause-recorded c some =
    let t = c.args.transaction.now in
    let same : c.changes_of.result.now ≡ changes_of t = (rw c.deref-2.ensures.value at c.changes_of.ensures) ∙ ap changes_of c.transaction.view_is in
    ap are_recorded_changes same ∙ kept-form t (alone-from (against_of c.args.head.now) t c.requires.alone).changes (sym (ap has_changes same) ∙ some)

pub meets-requires-clause-apply : goal.meets-requires-clause-apply
meets-requires-clause-apply c =
    let t = c.args.transaction.now in
    let same : c.changes_of.result.now ≡ changes_of t = (rw c.deref-2.ensures.value at c.changes_of.ensures) ∙ ap changes_of c.transaction.view_is in
    ap (changes_apply (tree_of c.args.head.now.files.now.tree)) same ∙ (alone-from (against_of c.args.head.now) t c.requires.alone).apply

pub returns-clause-good : goal.returns-clause-good
returns-clause-good c ok =
    let t = c.args.transaction.now in
    let ts = c.args.transactions.now.transactions in
    let tree = tree_of c.args.head.now.files.now.tree in
    let same : c.changes_of.result.now ≡ changes_of t = (rw c.deref-2.ensures.value at c.changes_of.ensures) ∙ ap changes_of c.transaction.view_is in
    let settings = (rw c.deref.ensures.value at c.settings_of.ensures) ∙ ap settings_of c.transaction.view_is in
    let passed : not c.in_ok-meets.field-0 ≡ true = cc in
    let unmet = (λ i. has_changes (sym same i) && is_met c.args.waiting.now None tree (sym same i)) ∙ sym c.in_ok-meets.ensures ∙ not-true _ passed in
    good-beside (against_of c.args.head.now) c.args.waiting.now ts t c.requires.good c.requires.held c.requires.alone (sym c.if-has_known_enlistment.ensures)
    ((λ i. others_set None (sym settings i) (sym c.as_slice.ensures i)) ∙ sym c.if-others_set.ensures) unmet

pub returns-clause-bad : goal.returns-clause-bad
returns-clause-bad c refused =
    let t = c.args.transaction.now in
    let ts = c.args.transactions.now.transactions in
    let tree = tree_of c.args.head.now.files.now.tree in
    let same : c.changes_of.result.now ≡ changes_of t = (rw c.deref-2.ensures.value at c.changes_of.ensures) ∙ ap changes_of c.transaction.view_is in
    let failed : not c.in_ok-meets.field-0 ≡ false = cc in
    let both = (λ i. has_changes (sym same i) && is_met c.args.waiting.now None tree (sym same i)) ∙ sym c.in_ok-meets.ensures ∙ not-not _ failed in
    none-met c.args.waiting.now (against_of c.args.head.now) ts t c.requires.held c.requires.alone (and_parts (has_changes (changes_of t)) (is_met c.args.waiting.now None tree (changes_of t)) both).1
