use Rattle.std.proofs.Common.{filter, sym, ◌∙◌, ap}
use Rattle.std.specs.Option.{option_copied}
use Rattle.txf_overlay.specs.OverlayState.{is_of_names}
use Rattle.txf_volume.proofs.Recording.{names-some, own-none}
use Rattle.txf_volume.proofs.files.Files.names.Goals as goal

pub returns-in-Some : goal.returns-in-Some
returns-in-Some c =
    c.names.ensures.names
    ∙ sym (names-some c.args.self.now c.args.transaction c.in-Some.overlay.now (sym c.overlay.ensures.overlay ∙ ap option_copied c.in-Some.is) (c.in-Some.ensures.over).own)

pub returns-in-None : goal.returns-in-None
returns-in-None c = sym (ap (filter is_of_names) (own-none c.args.self.now c.args.transaction (sym c.overlay.ensures.overlay ∙ ap option_copied c.in-None.is)))
