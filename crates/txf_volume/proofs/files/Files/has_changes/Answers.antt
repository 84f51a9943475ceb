use Rattle.std.proofs.Common.{sym, ◌∙◌, ap}
use Rattle.std.specs.Option.{option_copied}
use Rattle.ktm_world.specs.Changes.{has_changes}
use Rattle.txf_volume.proofs.Recording.{changes-some, own-none}
use Rattle.txf_volume.proofs.files.Files.has_changes.Goals as goal

pub returns-in-Some : goal.returns-in-Some
returns-in-Some c =
    changes-some c.args.self.now c.args.transaction c.in-Some.overlay.now c.is_empty.result (sym c.overlay.ensures.overlay ∙ ap option_copied c.in-Some.is) c.is_empty.ensures

pub returns-in-None : goal.returns-in-None
returns-in-None c = sym (ap has_changes (own-none c.args.self.now c.args.transaction (sym c.overlay.ensures.overlay ∙ ap option_copied c.in-None.is)))
