use Rattle.std.proofs.Common.{◌∙◌, [], false, get_or, set, sym, ap}
use Rattle.ktm_world.specs.declared.event.DonePart.{DonePart}
use Rattle.ktm_world.specs.declared.event.Part.TheVariants.{Settings}
use Rattle.ktm_world.specs.declared.recorded.RecordedPart.{RecordedPart}
use Rattle.ktm_world.specs.Durable.{settings_in, is_part_of}
use Rattle.ktm_waiting.proofs.OneOfKind.{IsAbsent, IsReplaced, absent-at, gathered-one, had, no-settings, replaced-at}
use Rattle.ktm_waiting.proofs.parts.take_settings.Goals as goal

absent : (c : goal.After-new) → IsAbsent (is_part_of DonePart.Keys) c.args.parts.now.items
absent c = absent-at (is_part_of DonePart.Keys) c.args.parts.now.items (rw c.deref.ensures.value at c.in_default.ensures)

pub returns-in_default-clause-taken : goal.returns-in_default-clause-taken
returns-in_default-clause-taken c =
    c.new.ensures.items ∙ ap (had settings_in (is_part_of DonePart.Keys) no-settings) (sym (absent c).found) ∙ sym (gathered-one settings_in (is_part_of DonePart.Keys) no-settings c.args.parts.now.items c.requires)

pub returns-in_default-clause-left : goal.returns-in_default-clause-left
returns-in_default-clause-left c = sym ((absent c).left (Settings []))

there : (c : goal.After-into_settings) → IsReplaced (is_part_of DonePart.Keys) (Settings []) c.args.parts.now.items c.in-Some.index
there c = replaced-at (is_part_of DonePart.Keys) (Settings []) c.args.parts.now.items c.in-Some.index c.requires (rw c.deref.ensures.value at c.in-Some.ensures)

pub returns-clause-taken : goal.returns-clause-taken
returns-clause-taken c =
    let d : RecordedPart = record { is_done = false; part = Settings [] } in
    c.into_settings.ensures ∙ ap settings_in (c.replace_part.ensures.taken d) ∙ ap (had settings_in (is_part_of DonePart.Keys) no-settings) (sym ((there c).found d))
    ∙ sym (gathered-one settings_in (is_part_of DonePart.Keys) no-settings c.args.parts.now.items c.requires)

pub returns-clause-left : goal.returns-clause-left
returns-clause-left c =
    let ps = c.args.parts.now.items in
    let d : RecordedPart = record { is_done = false; part = Settings [] } in
    let none = c.new-3.ensures ∙ c.new-2.ensures.items in
    c.replace_part.ensures.left d ∙ ap (λ cs. set ps c.in-Some.index (record (get_or ps c.in-Some.index d) { part = Settings cs })) none ∙ sym ((there c).left d)
