use Rattle.std.proofs.Common.{◌∙◌, rules, ap, not}
use Rattle.std.proofs.lemmas.Fn.{filter_same}
use Rattle.ktm_trace.specs.declared.marks.Mark.{Mark}
use Rattle.ktm_trace.specs.Joined.{MarksState, is_mark_of, without_marks}
use Rattle.ktm_trace.proofs.marks.Marks.forget.Goals as goal

pub returns-clause-marks : goal.returns-clause-marks
returns-clause-marks c = filter_same _ (λ (m : Mark). not (is_mark_of c.args.transaction m)) _ (λ m b f' k. search rules) _ _ c.retain.ensures.filtered ∙ ap (λ (s : MarksState). without_marks s.marks c.args.transaction) c.self.view_is
