use Rattle.std.proofs.Common.{◌+◌, ◌<◌, length, ◌∙◌, ap, arith}
use Rattle.std.proofs.lemmas.List.{length_push}
use Rattle.ktm_base.specs.Grammar.{IsU32}
use Rattle.ktm_codec.proofs.Forms.{unambiguous_u32}
use Rattle.ktm_codec.proofs.SpansLemmas.{row_push, list_no_count, list_cut, list_read}
use Rattle.ktm_event.proofs.Readings.{passes}
use Rattle.ktm_event.proofs.change.pages_at.Goals as goal

pub returns-in_err-count : goal.returns-in_err-count
returns-in_err-count c = passes _ _ c.from_residual.ensures.1 c.in_err-count.ensures (λ absent. record { none = list_no_count IsU32 _ _ absent.none })

pub returns-in_err-page : goal.returns-in_err-page
returns-in_err-page c =
    let fewer : length c.pages.pages.items < c.in_ok-count.count = omega arith in
    passes _ _ c.from_residual-in_err-page.ensures.1 c.in_err-page.ensures
    (λ absent. record { none = list_cut IsU32 _ _ _ _ c.in_ok-count.ensures unambiguous_u32 _ _ c.pages.invariant.row fewer absent.none })

pub pages-preserved : goal.pages-preserved
pages-preserved c = record {
  row = rw c.in_ok-push.ensures.items (row_push IsU32 _ _ _ _ _ _ c.pages.invariant.row c.in_ok-page.ensures);
  counted = ap length c.in_ok-push.ensures.items ∙ length_push _ _ ∙ ap (λ n. n + 1) c.pages.invariant.counted;
}

pub returns : goal.returns
returns c = rw c.new.ensures (list_read IsU32 _ _ _ _ c.in_ok-count.ensures _ _ c.pages.invariant.row (omega arith))
