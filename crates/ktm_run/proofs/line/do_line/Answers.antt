use Rattle.std.proofs.Common.{◌≡◌, inl, inr, refl, sym, ◌∙◌}
use Rattle.ktm_dump.proofs.offered.Written.{AppendsPart-none}
use Rattle.ktm_run.proofs.Breaks.{unanswered_kept, half_written}
use Rattle.ktm_run.proofs.Known.{Appends-none}
use Rattle.ktm_run.proofs.Lasting.{lasts_same}
use Rattle.ktm_run.proofs.Lines.{has_reply-of, Means-kept}
use Rattle.ktm_run.proofs.Runs.{Progress-silent, Progress-line}
use Rattle.ktm_run.specs.Script.{reply_line}
use Rattle.ktm_run.proofs.line.do_line.Goals as goal

pub returns-then-not-is_answered-clause-leaves : goal.returns-then-not-is_answered-clause-leaves
returns-then-not-is_answered-clause-leaves g c = record { done = λ line is. Progress-silent _ line (has_reply-of line c.args.kept.now is ∙ sym c.if-not-is_answered.ensures); ready = c.requires.ready; lasts = lasts_same c.args.kernel.now c.args.kernel.now refl }

pub returns-in_default-clause-leaves : goal.returns-in_default-clause-leaves
returns-in_default-clause-leaves g c = record {
  wants_reply = sym c.if-not-is_answered.ensures;
  broke = λ line is w stands. inl (Appends-none _, unanswered_kept w _ _ line (rw is at (c.in_default.ensures.no_memory w stands)));
}

pub returns-in-Err-clause-leaves : goal.returns-in-Err-clause-leaves
returns-in-Err-clause-leaves g c = record {
  wants_reply = sym c.if-not-is_answered.ensures;
  broke = λ line is w stands.
      let (meant, means, answers) = c.in-Ok.ensures.does in
      inr (half_written c.law_of_what_is_left.ensures _ _ w _ _ line meant c.in-Ok.reply (Means-kept line meant (rw is at means)) answers (AppendsPart-none _ _) stands);
}

pub returns-in-Err-write_all-clause-leaves : goal.returns-in-Err-write_all-clause-leaves
returns-in-Err-write_all-clause-leaves g c = record {
  wants_reply = sym c.if-not-is_answered.ensures;
  broke = λ line is w stands.
      let (meant, means, answers) = c.in-Ok.ensures.does in
      let whole : c.as_slice.result.now ≡ reply_line c.in-Ok.reply = c.as_slice.ensures.value ∙ c.in_default-make_reply_line.ensures in
      inr (half_written c.law_of_what_is_left.ensures _ _ w _ _ line meant c.in-Ok.reply (Means-kept line meant (rw is at means)) answers (rw whole at c.in-Err-write_all.ensures.err) stands);
}

pub returns-clause-leaves : goal.returns-clause-leaves
returns-clause-leaves g c = record {
  done = λ line is.
      let (meant, means, answers) = c.in-Ok.ensures.does in
      let whole : c.as_slice.result.now ≡ reply_line c.in-Ok.reply = c.as_slice.ensures.value ∙ c.in_default-make_reply_line.ensures in
      Progress-line _ _ line meant c.in-Ok.reply
      (has_reply-of line c.args.kept.now is ∙ sym c.if-not-is_answered.ensures)
      (Means-kept line meant (rw is at means))
      answers
      (rw whole at c.in_default-write_all.ensures.ok);
  ready = c.in-Ok.ensures.ready;
  lasts = c.in-Ok.ensures.lasts;
}
