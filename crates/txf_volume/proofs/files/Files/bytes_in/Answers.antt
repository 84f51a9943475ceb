use Rattle.std.proofs.Common.{sym, ◌∙◌, ap}
use Rattle.std.specs.Option.{option_copied}
use Rattle.txf_volume.specs.Held.{FilesHeld}
use Rattle.txf_volume.proofs.Seen.{seen-none}
use Rattle.txf_volume.proofs.files.Files.bytes_in.Goals as goal

pub returns-in-None : goal.returns-in-None
returns-in-None c =
    c.fixed_bytes.ensures c.args.self.now (ap (λ (h : FilesHeld). h.tree) (sym c.self.view_is)) (ap (λ (h : FilesHeld). h.versions) (sym c.self.view_is))
    ∙ sym (seen-none c.args.self.now c.args.transaction c.args.file (sym c.overlay.ensures.overlay ∙ ap option_copied c.in-None.is))
