use Rattle.ktm_memory.proofs.PlainRecords.{put_recorded}
use Rattle.ktm_memory.proofs.commit.record_put.Goals as goal

pub record_units-requires-clause-spelled : goal.record_units-requires-clause-spelled
record_units-requires-clause-spelled c = rw c.in-Whole.is at c.requires.spelled

pub record_units-requires-clause-can : goal.record_units-requires-clause-can
record_units-requires-clause-can c = rw c.in-Whole.is at c.requires.can

pub record_units-requires-clause-fits : goal.record_units-requires-clause-fits
record_units-requires-clause-fits c = rw c.in-Whole.is at c.requires.fits

pub returns-in-Whole-clause-records : goal.returns-in-Whole-clause-records
returns-in-Whole-clause-records c = rw c.in-Whole.is (λ s can. put_recorded s c.record_units.new.events c.args.node c.args.start c.in-Whole.units c.args.extent can c.record_units.ensures.holds)

pub returns-in-Paged-clause-records : goal.returns-in-Paged-clause-records
returns-in-Paged-clause-records c = λ s can. absurd (rw c.in-Paged.is at c.requires.can).1
