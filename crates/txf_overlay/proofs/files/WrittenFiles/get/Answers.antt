use Rattle.std.proofs.Common.{◌∙◌, ap, sym}
use Rattle.std.specs.Option.{option_map}
use Rattle.txf_overlay.proofs.FilesMap.{under-bytes}
use Rattle.txf_overlay.proofs.files.WrittenFiles.get.Goals as goal

pub returns-in-Some : goal.returns-in-Some
returns-in-Some c =
    rw (← c.self.view_is)
    (c.get.ensures.value ∙ rw c.number_bytes.ensures at c.in-Some.ensures.value ∙ under-bytes _ c.args.file c.self.invariant.map.are c.ranges.file.fits)

pub returns-in-None : goal.returns-in-None
returns-in-None c =
    rw (← c.self.view_is)
    (ap (λ o. option_map (λ e. e.1) o) (sym (rw c.number_bytes.ensures at c.in-None.ensures.absent)) ∙ under-bytes _ c.args.file c.self.invariant.map.are c.ranges.file.fits)
