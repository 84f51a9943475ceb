use Rattle.std.proofs.Common.{◌∙◌, Some, sym, refl}
use Rattle.std.specs.Option.{option_map}
use Rattle.ktm_world.specs.declared.reply.Reply.TheVariants.{Done}
use Rattle.ktm_world.specs.FileCalls.{at_node, create_at, empties, new_open}
use Rattle.txf_opens.specs.Acts.{open_of}
use Rattle.txf_opens.specs.declared.act.Act.TheVariants.{Open}
use Rattle.txf_calls.proofs.Fitting.{fit-open}
use Rattle.txf_calls.proofs.Quotas.{no-number-left, over-quota}
use Rattle.txf_calls.proofs.create.open_file.Goals as goal

pub returns-in_default-next_open : goal.returns-in_default-next_open
returns-in_default-next_open g c = λ node same.
    let files = g.V.Volume.files c.args.volume.now in
    let o = create_at files c.args.who (at_node node) c.args.modes.access c.args.modes.share c.args.modes.disposition in
    c.refused-in_default-next_open.ensures
    ∙ sym (over-quota files c.args.room.now c.args.who (Open c.args.file c.args.modes.access (empties c.args.modes.disposition) c.args.modes.share) o (sym (rw c.empties.ensures at c.check.ensures) ∙ c.in_default.is)
    (no-number-left files c.args.room.now c.args.who o (new_open files c.args.who node.number c.args.modes.access c.args.modes.share) refl refl c.in_default-next_open.ensures.none))

pub within_limits-requires : goal.within_limits-requires
within_limits-requires g c =
    fit-open (g.V.Volume.files c.args.volume.now) c.requires.orderly.rise c.args.file c.args.who (record { reply = Done; change = c.emptying.result; first = c.first_opening.result; opened = option_map open_of (Some c.in-Some-next_open.opened) }) c.args.modes.disposition
    c.requires.file c.emptying.ensures c.first_opening.ensures
