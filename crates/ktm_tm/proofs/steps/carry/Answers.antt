use Rattle.std.proofs.Common.{arith, refl, sym}
use Rattle.ktm_manager.proofs.offered.Served.{served_nothing}
use Rattle.ktm_tm.proofs.Carrying.{only_carries}
use Rattle.ktm_tm.proofs.steps.carry.Goals as goal

pub returns-in-Record-clause-carries : goal.returns-in-Record-clause-carries
returns-in-Record-clause-carries g c = rw (c.in-Record.is, c.records.ensures) (only_carries _ c.args.enlistments.now c.args.managers.now)

pub returns-in-Commit-clause-carries : goal.returns-in-Commit-clause-carries
returns-in-Commit-clause-carries g c = rw c.in-Commit.is (only_carries c.args.t c.args.enlistments.now c.args.managers.now)

pub returns-in-Change-clause-carries : goal.returns-in-Change-clause-carries
returns-in-Change-clause-carries g c =
    rw c.in-Change.is record { transaction = refl; enlistments = c.answer.ensures.enlistments; managers = sym (served_nothing c.args.managers.now.managers); spare = omega arith; enlistment_room = c.answer.ensures.room; manager_room = refl }

pub returns-in-Enter-clause-carries : goal.returns-in-Enter-clause-carries
returns-in-Enter-clause-carries g c = rw (c.in-Enter.is, c.enter.ensures) (only_carries _ c.args.enlistments.now c.args.managers.now)

pub returns-in-Decide-clause-carries : goal.returns-in-Decide-clause-carries
returns-in-Decide-clause-carries g c = rw c.in-Decide.is (only_carries _ c.args.enlistments.now c.args.managers.now)

pub returns-then-has_unfinished-clause-carries : goal.returns-then-has_unfinished-clause-carries
returns-then-has_unfinished-clause-carries g c = rw (c.in-EndWhereFinished.is, sym c.has_unfinished.ensures, c.if-has_unfinished.true) (only_carries c.args.t c.args.enlistments.now c.args.managers.now)
