use Rattle.std.proofs.Common.{◌∙◌, sym, ap}
use Rattle.std.specs.List.{list_any}
use Rattle.ktm_world.specs.declared.recorded.RecordedPart.{RecordedPart}
use Rattle.ktm_world.specs.Durable.{Recorded, is_part_of}
use Rattle.ktm_waiting.proofs.offered.TableSteps.{or-new, or_new}
use Rattle.ktm_waiting.proofs.table.Table.has_part_of.Goals as goal

pub returns-in-Some : goal.returns-in-Some
returns-in-Some c =
    c.has_part_of_it.ensures ∙ ap (λ o. (λ (t : Recorded). list_any (λ (p : RecordedPart). is_part_of c.args.done p.part) t.parts) (or_new c.args.id o)) c.in-Some.ensures.found ∙ ap (λ (t : Recorded). list_any (λ (p : RecordedPart). is_part_of c.args.done p.part) t.parts) (sym (or-new c.args.self.now.transactions c.args.id))

pub returns-in-None : goal.returns-in-None
returns-in-None c =
    ap (λ o. (λ (t : Recorded). list_any (λ (p : RecordedPart). is_part_of c.args.done p.part) t.parts) (or_new c.args.id o)) c.in-None.ensures.found ∙ ap (λ (t : Recorded). list_any (λ (p : RecordedPart). is_part_of c.args.done p.part) t.parts) (sym (or-new c.args.self.now.transactions c.args.id))
