use Rattle.std.proofs.Common.{◌≡◌, ◌∙◌, sym, subst, IfOk}
use Rattle.ktm_world.specs.FileCalls.{find_path}
use Rattle.ktm_world.specs.Files.{tree_seen}
use Rattle.txf_calls.proofs.Moving.{move-no-target}
use Rattle.txf_calls.proofs.Paths.{move-is}
use Rattle.txf_calls.proofs.moves.move_from.Goals as goal

pub returns-in_default : goal.returns-in_default
returns-in_default g c = λ source leads.
    c.refused.ensures ∙ sym (move-no-target (g.V.Volume.files c.args.volume.now) c.args.room.now c.args.who source c.args.target.now (rw c.in_default.is at c.in_ok-target.ensures))

pub returns : goal.returns
returns g c = λ source leads.
    let files = g.V.Volume.files c.args.volume.now in
    subst (λ o. IfOk c.move_at.result (λ plan. plan ≡ o)) (sym (move-is files c.args.room.now c.args.who source c.args.target.now))
    (c.move_at.ensures (find_path (tree_seen files c.args.who) source) (find_path (tree_seen files c.args.who) c.args.target.now)
    leads (c.whereabouts-to.ensures.leads c.args.target.now (rw c.in-Some.is at c.in_ok-target.ensures)))
