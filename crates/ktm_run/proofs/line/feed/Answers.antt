use Rattle.std.proofs.Common.{◌≡◌, ℕ, List, [], ◌∷◌, ◌++◌, length, take, ◌+◌, refl, sym, ◌∙◌, ap, append_assoc, arith}
use Rattle.std.proofs.lemmas.List.{append-nil}
use Rattle.std.proofs.lemmas.Bool.{false_from_ne_true}
use Rattle.ktm_run.proofs.Lasting.{lasts_fewer, lasts_line, lasts_one}
use Rattle.ktm_run.proofs.Lines.{has_reply-of, cut_at, behind, uncut}
use Rattle.ktm_run.proofs.Runs.{Progress-none, Progress-as, Progress-then, Stops-line, Stops-after, Stops-within, Stops-as}
use Rattle.ktm_run.specs.Script.{ended, kept_of, lines_from, part_from}
use Rattle.ktm_run.proofs.line.feed.Goals as goal

pub loop-end-init : goal.loop-end-init
loop-end-init g c = record { went = λ part is. (part, [], is, refl, refl, Progress-none _); room = c.requires.room; ready = c.requires.ready; lasts = λ left lasts. lasts; later = omega arith }

pub loop-end-preserved : goal.loop-end-preserved
loop-end-preserved g c = record {
  went = λ part is.
      let (now, lines, kept, all, rest, went) = c.loop-end.invariant.went part is in
      let cut = cut_at now c.loop-end.rest.now c.in-Some.end c.in-Some.ensures.0.high c.in-Some.ensures.1 (λ k below. false_from_ne_true _ (c.in-Some.ensures.0.before k (omega arith) below)) in
      let line = now ++ take c.in-Some.end c.loop-end.rest.now in
      let is_kept : c.ended-line.result.now ≡ kept_of line =
      c.ended-line.ensures ∙ ap (λ (l : List ℕ). ended l (take c.in-Some.end c.loop-end.rest.now)) c.deref.ensures.value ∙ c.keep_end.ensures.line now kept in (
        [],
        lines ++ line ∷ [],
        c.clear.ensures.items,
        ap (λ (r : List ℕ). (lines ++ line ∷ []) ++ lines_from [] r) (behind c.in-Some.end c.loop-end.rest.now) ∙ append_assoc lines (line ∷ []) _ ∙ ap (λ (l : List (List ℕ)). lines ++ l) (sym cut.0) ∙ all,
        ap (λ (r : List ℕ). part_from [] r) (behind c.in-Some.end c.loop-end.rest.now) ∙ sym cut.1 ∙ rest,
        Progress-then _ _ _ lines (line ∷ []) went (c.in_default-do_line.ensures.leaves.done line is_kept),
      );
  room = omega (arith, c.clear.ensures.capacity, c.keep_end.ensures.room);
  ready = c.in_default-do_line.ensures.leaves.ready;
  lasts = λ left lasts. lasts_line c.loop-end.kernel c.do_line.new.kernel (length c.loop-end.rest.now + left) _ (omega (arith, c.in-Some.ensures.0.high)) c.in_default-do_line.ensures.leaves.lasts (c.loop-end.invariant.lasts left lasts);
  later = omega (arith, c.loop-end.invariant.later, c.do_line.ensures.later);
}

pub returns-clause-leaves : goal.returns-clause-leaves
returns-clause-leaves g c = record {
  done = λ part is.
      let (now, lines, kept, all, rest, went) = c.loop-end.invariant.went part is in
      let none = uncut now c.loop-end.rest.now (λ k below. false_from_ne_true _ (c.in_default.ensures k (omega arith) below)) in
      Progress-as _ _ _ _ (sym (append-nil lines) ∙ ap (λ (l : List (List ℕ)). lines ++ l) (sym none.0) ∙ all) went;
  keeps = λ part is.
      let (now, lines, kept, all, rest, went) = c.loop-end.invariant.went part is in
      let none = uncut now c.loop-end.rest.now (λ k below. false_from_ne_true _ (c.in_default.ensures k (omega arith) below)) in
      c.keep.ensures.kept now kept ∙ ap kept_of (sym none.1 ∙ rest);
  ready = c.loop-end.invariant.ready;
  lasts = λ left lasts. lasts_fewer c.loop-end.kernel (length c.loop-end.rest.now + left) left (omega arith) (c.loop-end.invariant.lasts left lasts);
}

pub returns-in-Err-clause-leaves : goal.returns-in-Err-clause-leaves
returns-in-Err-clause-leaves g c = λ part is.
    let (now, lines, kept, all, rest, went) = c.loop-end.invariant.went part is in
    let cut = cut_at now c.loop-end.rest.now c.in-Some.end c.in-Some.ensures.0.high c.in-Some.ensures.1 (λ k below. false_from_ne_true _ (c.in-Some.ensures.0.before k (omega arith) below)) in
    let line = now ++ take c.in-Some.end c.loop-end.rest.now in
    let is_kept : c.ended-line.result.now ≡ kept_of line =
    c.ended-line.ensures ∙ ap (λ (l : List ℕ). ended l (take c.in-Some.end c.loop-end.rest.now)) c.deref.ensures.value ∙ c.keep_end.ensures.line now kept in
    Stops-as _ _ _ _ (append_assoc lines (line ∷ []) _ ∙ ap (λ (l : List (List ℕ)). lines ++ l) (sym cut.0) ∙ all)
    (Stops-within _ _ (lines ++ line ∷ []) _ (Stops-after _ _ _ lines (line ∷ []) went
    (Stops-line _ _ line (has_reply-of line _ is_kept ∙ c.in-Err.ensures.leaves.wants_reply) (g.met.D.Disk.lengths c.loop-end.disk) (c.in-Err.ensures.leaves.broke line is_kept))))

pub do_line-requires-clause-counts : goal.do_line-requires-clause-counts
do_line-requires-clause-counts g c =
    lasts_one c.loop-end.kernel (length c.loop-end.rest.now + 0) (omega (arith, c.in-Some.ensures.0.high))
    (c.loop-end.invariant.lasts 0 (lasts_fewer c.args.kernel.now _ (length c.args.bytes.now + 0) (omega arith) c.requires.counts))
