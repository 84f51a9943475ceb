use Rattle.ktm_base.specs.Disk.{DiskState}
use Rattle.ktm_journal.specs.declared.half.Half.TheVariants.{A}
use Rattle.ktm_journal.specs.Format.{LaysHalf}
use Rattle.ktm_journal.specs.Image.{empty_snapshot}
use Rattle.ktm_journal.proofs.Known.{Goes-then}
use Rattle.ktm_journal.proofs.image.lay.Goals as goal

pub returns-clause-ok : goal.returns-clause-ok
returns-clause-ok g c =
    Goes-then _ _ _ c.in_default.ensures.ok (rw c.empty_snapshot.ensures at c.in_default-lay_half.ensures.ok)
    (λ (a : DiskState) (b : DiskState) (d : DiskState) grew (lays : LaysHalf c.args.units A empty_snapshot b d). lays.laid)
