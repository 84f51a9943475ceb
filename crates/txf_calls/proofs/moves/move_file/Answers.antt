use Rattle.std.proofs.Common.{◌∙◌, sym}
use Rattle.txf_calls.proofs.Moving.{move-no-source}
use Rattle.txf_calls.proofs.moves.move_file.Goals as goal

pub returns-in_default : goal.returns-in_default
returns-in_default g c =
    c.refused.ensures ∙ sym (move-no-source (g.V.Volume.files c.args.volume.now) c.args.room.now c.args.who c.args.source.now c.args.target.now (rw c.in_default.is at c.in_ok-source.ensures))

pub returns : goal.returns
returns g c = c.move_from.ensures c.args.source.now (c.whereabouts-from.ensures.leads c.args.source.now (rw c.in-Some.is at c.in_ok-source.ensures))
