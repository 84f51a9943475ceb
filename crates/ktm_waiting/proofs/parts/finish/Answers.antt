use Rattle.std.proofs.Common.{◌≡◌, ◌∙◌, not, true, List, filter, rules, refl, ap}
use Rattle.std.proofs.lemmas.Fn.{filter_same}
use Rattle.ktm_world.specs.declared.event.DonePart.{DonePart}
use Rattle.ktm_world.specs.declared.recorded.RecordedPart.{RecordedPart}
use Rattle.ktm_world.specs.Durable.{is_of_enlistment, is_part_of, parts_done}
use Rattle.ktm_waiting.proofs.parts.finish.Goals as goal

enlistment-done : (done : DonePart) (ps : List RecordedPart) → is_of_enlistment done ≡ true → filter (λ (p : RecordedPart). not (is_part_of done p.part)) ps ≡ parts_done done ps
enlistment-done done ps is = rw is refl

pub returns-in-Enlistment : goal.returns-in-Enlistment
returns-in-Enlistment c =
    filter_same _ (λ (p : RecordedPart). not (is_part_of c.args.done p.part)) _ (λ p b f' k. search rules) _ _ c.retain.ensures.filtered
    ∙ enlistment-done c.args.done c.args.parts.now.items (ap is_of_enlistment c.in-Enlistment.is)
