use Rattle.std.proofs.Common.{◌∙◌, sym, ap}
use Rattle.ktm_world.specs.declared.event.DonePart.{DonePart}
use Rattle.ktm_world.specs.Durable.{settings_in, is_part_of}
use Rattle.ktm_waiting.proofs.OneOfKind.{gathered-one, had, no-settings}
use Rattle.ktm_waiting.proofs.parts.settings_of.Goals as goal

pub returns-in-Some : goal.returns-in-Some
returns-in-Some c = c.settings_in.ensures ∙ ap (had settings_in (is_part_of DonePart.Keys) no-settings) c.in-Some.ensures ∙ sym (gathered-one settings_in (is_part_of DonePart.Keys) no-settings c.args.parts.now c.requires)

pub returns-in-None : goal.returns-in-None
returns-in-None c = ap (had settings_in (is_part_of DonePart.Keys) no-settings) c.in-None.ensures ∙ sym (gathered-one settings_in (is_part_of DonePart.Keys) no-settings c.args.parts.now c.requires)
