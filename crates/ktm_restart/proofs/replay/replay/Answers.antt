use Rattle.std.proofs.Common.{◌≡◌, ◌+◌, Ok, Some, drop, ap, sym, subst, ◌∙◌, arith}
use Rattle.std.proofs.lemmas.List.{take_rest}
use Rattle.ktm_journal.specs.Image.{half_of, log_area}
use Rattle.ktm_restart.specs.Payloads.{IsFirstBad}
use Rattle.ktm_log.specs.Log.{first_payload, payloads_in}
use Rattle.ktm_restart.proofs.Folds.{folded_none, folded_more, folded_all, first_bad}
use Rattle.ktm_restart.proofs.GoodLogs.{bytes_fit, comes_to_header}
use Rattle.ktm_restart.proofs.replay.replay.Goals as goal

pub loop-payload-init : goal.loop-payload-init
loop-payload-init c = record { folded = folded_none c.args.state.now.state c.args.bytes.now; well = c.requires.reading.well }

pub loop-payload-preserved : goal.loop-payload-preserved
loop-payload-preserved c =
    let at = c.loop-payload.at in
    let rest = take_rest c.args.bytes.now at in
    let next : first_payload (drop at c.args.bytes.now) ≡ Some c.in-Some.payload.now = ap first_payload (sym rest) ∙ c.in-Some.ensures.is in
    record {
      folded =
          rw c.frame_len-at.ensures
          (folded_more c.args.state.now.state c.args.bytes.now at c.loop-payload.state.state c.loop-payload.invariant.folded c.in-Some.payload.now next c.apply.new.state.state
          (rw rest at c.in-Some.ensures.fits) (c.in-Ok-true.ensures.good (ap Ok c.in-Ok-true.field-0-test)));
      well = c.in-Ok-true.ensures.well (ap Ok c.in-Ok-true.field-0-test);
    }

pub returns-in-Ok-false-clause-bad : goal.returns-in-Ok-false-clause-bad
returns-in-Ok-false-clause-bad c offset is =
    let at = c.loop-payload.at in
    let rest = take_rest c.args.bytes.now at in
    let next : first_payload (drop at c.args.bytes.now) ≡ Some c.in-Some.payload.now = ap first_payload (sym rest) ∙ c.in-Some.ensures.is in
    let here : c.log_at.result + at ≡ offset = cc in
    let begin = (log_area c.args.header.units (half_of c.args.header.selector)).at in
    let bad : IsFirstBad c.args.state.now.state begin (payloads_in c.args.bytes.now) (begin + at) =
    first_bad c.args.state.now.state c.args.bytes.now at c.loop-payload.state.state c.loop-payload.invariant.folded c.in-Some.payload.now next begin (c.in-Ok-false.ensures.bad (ap Ok c.in-Ok-false.field-0-test)) in
    subst (λ n. IsFirstBad c.args.state.now.state begin (payloads_in c.args.bytes.now) n) (ap (λ n. n + at) (sym c.log_at.ensures) ∙ here) bad

pub returns-clause-good : goal.returns-clause-good
returns-clause-good c =
    folded_all c.args.state.now.state c.args.bytes.now c.loop-payload.at c.loop-payload.state.state c.loop-payload.invariant.folded
    (ap first_payload (sym (take_rest c.args.bytes.now c.loop-payload.at)) ∙ c.in_default.ensures.is)

pub returns-clause-reading : goal.returns-clause-reading
returns-clause-reading c = record {
  well = c.loop-payload.invariant.well;
  of_header =
      comes_to_header c.law_of_grammar.ensures c.law_of_paged_records.ensures c.law_of_spelling.ensures c.args.header c.args.state.now.state c.args.bytes.now c.loop-payload.state.state c.requires.reading.of_header (bytes_fit c.args.bytes.now (λ i. omega (arith, c.type_inv.bytes i)))
      (folded_all c.args.state.now.state c.args.bytes.now c.loop-payload.at c.loop-payload.state.state c.loop-payload.invariant.folded
      (ap first_payload (sym (take_rest c.args.bytes.now c.loop-payload.at)) ∙ c.in_default.ensures.is));
}
