use Rattle.std.proofs.Common.{◌∙◌, ap}
use Rattle.std.specs.Option.{option_map}
use Rattle.ktm_event.specs.Work.{first_of}
use Rattle.txf_volume.specs.Shown.{recorded_file}
use Rattle.txf_volume.proofs.FilesShown.{first-is, shown-now}
use Rattle.txf_volume.proofs.written.WrittenWrittenFiles.first.Goals as goal

pub returns-in-Some : goal.returns-in-Some
returns-in-Some c =
    c.file_pages.ensures ∙ ap (option_map recorded_file) c.written_from.ensures ∙ first-is c.in-Some.overlay.now.written
    ∙ ap first_of (shown-now c.self.inside.overlay c.in-Some.overlay c.args.self.now c.in-Some.is c.self.view_is c.self.invariant)
