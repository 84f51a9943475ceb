use Rattle.std.proofs.Common.{◌∙◌, ap, arith, sym}
use Rattle.std.specs.List.{list_all}
use Rattle.ktm_saved.specs.Tests.{against_of}
use Rattle.ktm_saved.proofs.Refused.{none-alone, none-before, none-many}
use Rattle.ktm_saved.proofs.beside.is_good_behind.Goals as goal
use Rattle.ktm_world.specs.Durable.{Recorded, is_before}
use Rattle.txf_laws.proofs.offered.Elements.{list_all-at}

pub returns-then-not-are_before-clause-bad : goal.returns-then-not-are_before-clause-bad
returns-then-not-are_before-clause-bad c _ =
    let t = c.args.transaction.now in
    let id = ap (λ (u : Recorded). u.id) c.transaction.view_is in
    none-before (against_of c.args.head.now) c.args.transactions.now.transactions t
    ((λ i. list_all (λ (u : Recorded). is_before u.id (sym id i)) (sym c.as_slice.ensures i)) ∙ sym c.if-not-are_before.ensures)

pub returns-then-enlistments_of-clause-bad : goal.returns-then-enlistments_of-clause-bad
returns-then-enlistments_of-clause-bad c _ = none-many (against_of c.args.head.now) c.args.transactions.now.transactions c.args.transaction.now (omega (arith, c.enlistments_of.ensures))

pub returns-then-not-branch-clause-bad : goal.returns-then-not-branch-clause-bad
returns-then-not-branch-clause-bad c _ = none-alone (against_of c.args.head.now) c.args.transactions.now.transactions c.args.transaction.now (sym c.in_ok-is_good_alone.ensures ∙ c.if-not-branch.true)

pub returns-clause-good : goal.returns-clause-good
returns-clause-good c ok =
    let t = c.args.transaction.now in
    let ts = c.args.transactions.now.transactions in
    let id = ap (λ (u : Recorded). u.id) c.transaction.view_is in
    record {
      last = list_all-at (λ (u : Recorded). is_before u.id t.id) ts ((λ i. list_all (λ (u : Recorded). is_before u.id (sym id i)) (sym c.as_slice.ensures i)) ∙ sym c.if-not-are_before.ensures);
      alone = sym c.in_ok-is_good_alone.ensures ∙ c.if-not-branch.false;
      beside = c.is_good_beside.ensures.good ok;
    }
