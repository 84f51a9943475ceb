use Rattle.std.proofs.Common.{◌≡◌, ◌∙◌, true, rules, refl, ap, not}
use Rattle.std.specs.Prelude.{List, filter}
use Rattle.std.proofs.lemmas.Fn.{filter_same}
use Rattle.ktm_base.specs.declared.id.Id.{Id}
use Rattle.ktm_world.specs.declared.event.DonePart.{DonePart}
use Rattle.ktm_world.specs.Durable.{is_of_enlistment}
use Rattle.ktm_trace.specs.declared.marks.Mark.{Mark}
use Rattle.ktm_trace.specs.Joined.{MarksState, is_mark_by, marks_done}
use Rattle.ktm_trace.proofs.marks.Marks.take_out.Goals as goal

enlistment-done : (ms : List Mark) (id : Id) (done : DonePart) → is_of_enlistment done ≡ true → filter (λ (m : Mark). not (is_mark_by id done m)) ms ≡ marks_done ms id done
enlistment-done ms id done is = rw is refl

pub returns-clause-marks : goal.returns-clause-marks
returns-clause-marks c =
    filter_same _ (λ (m : Mark). not (is_mark_by c.args.transaction c.args.done m)) _ (λ m b f' k. search rules) _ _ c.retain.ensures.filtered
    ∙ enlistment-done c.self.inside.items.items c.args.transaction c.args.done c.requires
    ∙ ap (λ (s : MarksState). marks_done s.marks c.args.transaction c.args.done) c.self.view_is
