use Rattle.std.proofs.Common.{◌∙◌, sym, ap}
use Rattle.ktm_world.specs.declared.event.DonePart.{DonePart}
use Rattle.ktm_world.specs.Durable.{changes_in, is_part_of}
use Rattle.ktm_waiting.proofs.OneOfKind.{gathered-one, had, no-changes}
use Rattle.ktm_waiting.proofs.parts.changes_of.Goals as goal

pub returns-in-Some : goal.returns-in-Some
returns-in-Some c = c.changes_in.ensures ∙ ap (had changes_in (is_part_of DonePart.Files) no-changes) c.in-Some.ensures ∙ sym (gathered-one changes_in (is_part_of DonePart.Files) no-changes c.args.parts.now c.requires)

pub returns-in-None : goal.returns-in-None
returns-in-None c = ap (had changes_in (is_part_of DonePart.Files) no-changes) c.in-None.ensures ∙ sym (gathered-one changes_in (is_part_of DonePart.Files) no-changes c.args.parts.now c.requires)
