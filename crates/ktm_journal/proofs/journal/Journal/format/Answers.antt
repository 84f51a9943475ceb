use Rattle.std.proofs.Common.{[]}
use Rattle.ktm_base.specs.Disk.{DiskState, IsSafe}
use Rattle.ktm_journal.specs.Image.{IsImage, empty_snapshot}
use Rattle.ktm_journal.proofs.Known.{Goes-then}
use Rattle.ktm_journal.proofs.journal.Journal.format.Goals as goal

pub returns-clause-ok : goal.returns-clause-ok
returns-clause-ok g c =
    Goes-then _ _ _ c.in_default.ensures.ok c.in_default-put_header.ensures.ok
    (λ (a : DiskState) (b : DiskState) (d : DiskState) laid (put : IsSafe d × IsImage c.args.units c.args.image empty_snapshot [] d.seen). put)
