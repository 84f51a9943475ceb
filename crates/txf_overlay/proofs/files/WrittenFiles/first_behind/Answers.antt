use Rattle.std.proofs.Common.{◌+◌, arith}
use Rattle.txf_overlay.proofs.FilesMap.{first_from-end}
use Rattle.txf_overlay.proofs.files.WrittenFiles.first_behind.Goals as goal

pub returns-in-None : goal.returns-in-None
returns-in-None c = rw (← c.self.view_is) (first_from-end _ (c.args.file + 1) c.self.invariant.map.are (omega arith))
