use Rattle.std.proofs.Common.{◌≡◌, ◌∙◌, sym, subst, IfOk}
use Rattle.ktm_world.specs.FileCalls.{find_path}
use Rattle.ktm_world.specs.Files.{tree_seen}
use Rattle.txf_calls.proofs.Creates.{create-is, create-lacks, create-no-path}
use Rattle.txf_calls.proofs.create.create.Goals as goal

pub returns-then-lacks_access : goal.returns-then-lacks_access
returns-then-lacks_access g c =
    c.refused.ensures
    ∙ sym (create-lacks (g.V.Volume.files c.args.volume.now) c.args.room.now c.args.who c.args.path.now c.args.modes.access c.args.modes.share c.args.modes.disposition (sym c.lacks_access.ensures ∙ c.if-lacks_access.true))

pub returns-in_default : goal.returns-in_default
returns-in_default g c =
    c.refused-in_default.ensures
    ∙ sym (create-no-path (g.V.Volume.files c.args.volume.now) c.args.room.now c.args.who c.args.path.now c.args.modes.access c.args.modes.share c.args.modes.disposition (sym c.lacks_access.ensures ∙ c.if-lacks_access.false) (rw c.in_default.is at c.in_ok-path.ensures))

pub returns : goal.returns
returns g c =
    let files = g.V.Volume.files c.args.volume.now in
    subst (λ o. IfOk c.create_at.result (λ plan. plan ≡ o))
    (sym (create-is files c.args.room.now c.args.who c.args.path.now c.args.modes.access c.args.modes.share c.args.modes.disposition (sym c.lacks_access.ensures ∙ c.if-lacks_access.false)))
    (c.create_at.ensures (find_path (tree_seen files c.args.who) c.args.path.now) (c.whereabouts.ensures.leads c.args.path.now (rw c.in-Some.is at c.in_ok-path.ensures)))
