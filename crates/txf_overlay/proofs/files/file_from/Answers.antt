use Rattle.std.proofs.Common.{◌∙◌}
use Rattle.txf_overlay.proofs.FilesMap.{first_from-files, first_from-none}
use Rattle.txf_overlay.proofs.files.file_from.Goals as goal

pub returns-in-Some : goal.returns-in-Some
returns-in-Some c = c.get.ensures.value ∙ rw c.number_bytes.ensures at c.in-Some.ensures.value ∙ first_from-files _ c.args.from c.requires c.ranges.from.fits

pub returns-in-None : goal.returns-in-None
returns-in-None c = first_from-none _ c.args.from c.requires c.ranges.from.fits (rw c.number_bytes.ensures at c.in-None.ensures.key)
