use Rattle.std.proofs.Common.{length, sym, ◌∙◌, ap}
use Rattle.std.specs.Option.{option_copied}
use Rattle.txf_volume.proofs.Counted.{own_bytes-none, own_bytes-some}
use Rattle.txf_volume.proofs.Reading.{none_there, size_there}
use Rattle.txf_volume.proofs.files.Files.own_size.Goals as goal

pub returns-in-Some-size : goal.returns-in-Some-size
returns-in-Some-size c =
    size_there _ _ _ c.in-Some-size.ensures
    ∙ ap length
    (sym (own_bytes-some c.args.self.now c.args.transaction c.args.file c.in-Some.overlay.now (sym c.overlay.ensures.overlay ∙ ap option_copied c.in-Some.is) (c.in-Some.ensures.over).own))

pub returns-in-None-size : goal.returns-in-None-size
returns-in-None-size c =
    ap length
    (none_there _ _ c.in-None-size.ensures
    ∙ sym (own_bytes-some c.args.self.now c.args.transaction c.args.file c.in-Some.overlay.now (sym c.overlay.ensures.overlay ∙ ap option_copied c.in-Some.is) (c.in-Some.ensures.over).own))

pub returns-in-None : goal.returns-in-None
returns-in-None c = ap length (sym (own_bytes-none c.args.self.now c.args.transaction c.args.file (sym c.overlay.ensures.overlay ∙ ap option_copied c.in-None.is)))
