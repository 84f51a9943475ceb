use Rattle.std.proofs.Common.{◌∙◌, sym, refl, arith}
use Rattle.std.proofs.lemmas.Grind.{common_steps}
use Rattle.ktm_world.specs.FileCalls.{create_at, free, new_open}
use Rattle.txf_opens.specs.declared.act.Act.TheVariants.{Make}
use Rattle.txf_calls.proofs.Quotas.{no-number-left, over-quota}
use Rattle.txf_calls.proofs.create.make_file.Goals as goal

pub check-requires : goal.check-requires
check-requires g c = grind (arith, common_steps)

pub returns-in_default-next_open : goal.returns-in_default-next_open
returns-in_default-next_open g c =
    let files = g.V.Volume.files c.args.volume.now in
    let o = create_at files c.args.who (free c.args.at.directory c.args.at.name.now) c.args.modes.access c.args.modes.share c.args.modes.disposition in
    c.refused-in_default-next_open.ensures
    ∙ sym (over-quota files c.args.room.now c.args.who (Make c.args.at) o (sym c.check.ensures ∙ c.in_default.is)
    (no-number-left files c.args.room.now c.args.who o (new_open files c.args.who files.table.next_node c.args.modes.access c.args.modes.share) refl refl c.in_default-next_open.ensures.none))
