use Rattle.std.proofs.Common.{sym, ◌∙◌, ap}
use Rattle.std.specs.Option.{option_copied}
use Rattle.txf_volume.proofs.Seen.{made-none, made-some}
use Rattle.txf_volume.proofs.files.Files.has_made.Goals as goal

pub returns-in-Some : goal.returns-in-Some
returns-in-Some c =
    c.has_made.ensures ∙ sym (made-some c.args.self.now c.args.transaction c.args.file c.in-Some.overlay.now (sym c.overlay.ensures.overlay ∙ ap option_copied c.in-Some.is))

pub returns-in-None : goal.returns-in-None
returns-in-None c = sym (made-none c.args.self.now c.args.transaction c.args.file (sym c.overlay.ensures.overlay ∙ ap option_copied c.in-None.is))
