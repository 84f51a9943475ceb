use Rattle.std.proofs.Common.{◌∙◌, arith, sym}
use Rattle.ktm_paged.specs.Meaning.{has_work_pages, meant}
use Rattle.ktm_restart.proofs.Meant.{one-changed}
use Rattle.ktm_restart.proofs.meaning.make_all_meant.Goals as goal

pub loop-change-preserved : goal.loop-change-preserved
loop-change-preserved c =
    one-changed has_work_pages (meant 0) c.args.changes.now c.loop-change.change-index c.loop-change.changes c.change-item.result c.loop-change.invariant (omega arith) c.make_meant.new.change
    (sym c.make_meant.ensures.has ∙ c.if-not-make_meant.false) (c.make_meant.ensures.meant c.if-not-make_meant.false)
