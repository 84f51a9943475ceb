use Rattle.std.proofs.Common.{◌∙◌, sym}
use Rattle.ktm_world.specs.FileCalls.{find_path}
use Rattle.ktm_world.specs.Files.{tree_seen}
use Rattle.txf_calls.proofs.Paths.{remove-is, remove-no-path}
use Rattle.txf_calls.proofs.remove.remove_directory.Goals as goal

pub returns-in_default : goal.returns-in_default
returns-in_default g c =
    c.refused.ensures ∙ sym (remove-no-path (g.V.Volume.files c.args.volume.now) c.args.room.now c.args.who c.args.path.now (rw c.in_default.is at c.in_ok-path.ensures))

pub returns : goal.returns
returns g c =
    let files = g.V.Volume.files c.args.volume.now in
    c.remove_at.ensures (find_path (tree_seen files c.args.who) c.args.path.now) (c.whereabouts-there.ensures.leads c.args.path.now (rw c.in-Some.is at c.in_ok-path.ensures))
    ∙ sym (remove-is files c.args.room.now c.args.who c.args.path.now)
