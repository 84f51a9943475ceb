use Rattle.std.proofs.Common.{Option, ◌∷◌, [], sym, subst}
use Rattle.ktm_paged.specs.Meaning.{size_before}
use Rattle.ktm_world.specs.declared.change.Change.{Change}
use Rattle.ktm_world.specs.declared.event.Event.TheVariants.{Plain}
use Rattle.ktm_memory.specs.declared.extent.Extent.{Extent}
use Rattle.ktm_memory.specs.Decided.{HoldsRecordOf}
use Rattle.ktm_memory.specs.Units.{CanBeRecorded}
use Rattle.ktm_memory.proofs.PlainRecords.{as_it_is}
use Rattle.ktm_memory.proofs.commit.record_change.Goals as goal

pub returns-in_default-clause-records : goal.returns-in_default-clause-records
returns-in_default-clause-records c = λ s can.
    as_it_is s c.record_as_it_is.new.events c.args.change (subst (λ (extent : Option Extent). CanBeRecorded (size_before s.tree c.args.change) c.args.change extent) c.in_default.is can) c.record_as_it_is.ensures.holds

pub record_put-requires-clause-spelled : goal.record_put-requires-clause-spelled
record_put-requires-clause-spelled c = rw c.in-Put.is at c.requires.spelled

pub record_put-requires-clause-can : goal.record_put-requires-clause-can
record_put-requires-clause-can c = rw (c.in-Put.is, c.in-Some.is) at c.requires.can

pub record_put-requires-clause-fits : goal.record_put-requires-clause-fits
record_put-requires-clause-fits c = rw c.in-Put.is at c.requires.fits

pub returns-in-Put-clause-records : goal.returns-in-Put-clause-records
returns-in-Put-clause-records c = λ s can.
    subst (λ (change : Change). HoldsRecordOf s c.record_put.new.events (Plain change ∷ [])) (sym c.in-Put.is) (c.record_put.ensures.records s (rw (c.in-Put.is, c.in-Some.is) at can))
