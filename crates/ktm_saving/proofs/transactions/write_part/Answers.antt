use Rattle.std.proofs.Common.{◌≡◌, ◌∙◌, ap, arith, sym}
use Rattle.ktm_saving.specs.Owned.{changes_owned, changes_placed}
use Rattle.ktm_saving.proofs.Recorded.{placed-contents, work-contents}
use Rattle.ktm_saving.proofs.transactions.write_part.Goals as goal
use Rattle.ktm_saving.proofs.transactions.write_part.Goals.{After-law_of_works}
use Rattle.ktm_trace.specs.Contents.{contents_of}
use Rattle.ktm_world.specs.Sizes.{part_size}

-- the part takes as many bytes as it does as a state has it
sized : (c : After-law_of_works) → part_size (contents_of c.args.tm.now.now.enlistments (changes_placed c.args.owned.now) c.args.owned.now.settings.now c.args.part.who)
    ≡ part_size (contents_of c.args.tm.now.now.enlistments (changes_owned c.args.owned.now) c.args.owned.now.settings.now c.args.part.who)
sized c =
    let es = c.args.tm.now.now.enlistments in
    let recorded = changes_owned c.args.owned.now in
    let settings = c.args.owned.now.settings.now in
    ap part_size (sym (placed-contents es recorded settings c.args.part.who)) ∙ c.law_of_works.ensures.size (contents_of es recorded settings c.args.part.who) (work-contents es recorded settings c.requires.work c.args.part.who)

pub put_work-requires-clause-part : goal.put_work-requires-clause-part
put_work-requires-clause-part c = rw c.work_of.ensures c.requires.spelled

pub put_work-requires-clause-work : goal.put_work-requires-clause-work
put_work-requires-clause-work c =
    rw c.work_of.ensures (work-contents c.args.tm.now.now.enlistments (changes_owned c.args.owned.now) c.args.owned.now.settings.now c.requires.work c.args.part.who)

pub put_work-requires-clause-room : goal.put_work-requires-clause-room
put_work-requires-clause-room c = rw c.work_of.ensures (omega (arith, sized (goal.at.put_work-requires-clause-room c).After-law_of_works, c.requires.room))
