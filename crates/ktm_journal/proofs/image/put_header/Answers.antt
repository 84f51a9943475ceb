use Rattle.ktm_base.specs.Disk.{DiskState}
use Rattle.ktm_journal.specs.declared.half.Half.TheVariants.{A}
use Rattle.ktm_journal.specs.Format.{IsLaid}
use Rattle.ktm_journal.specs.Image.{empty_snapshot}
use Rattle.ktm_base.proofs.offered.ToldSteps.{Goes-map}
use Rattle.ktm_journal.proofs.Formats.{new_image}
use Rattle.ktm_journal.proofs.image.put_header.Goals as goal

pub returns-clause-ok : goal.returns-clause-ok
returns-clause-ok g c =
    Goes-map _ _ (λ (s : DiskState). IsLaid c.args.units A empty_snapshot s.seen) c.requires.laid c.in_default.ensures.ok
    (λ a b was settled. new_image c.args.units c.args.image _ a b c.requires.from c.requires.to was c.header.ensures settled)
