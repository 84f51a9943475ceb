use Rattle.std.proofs.Common.{◌+◌, ◌<◌, length, ◌∙◌, ap, arith}
use Rattle.std.proofs.lemmas.List.{length_push}
use Rattle.ktm_codec.proofs.SpansLemmas.{row_push}
use Rattle.ktm_event.proofs.Readings.{passes}
use Rattle.ktm_snapshot.proofs.Fields.{no_transaction, part_missing, transaction_read}
use Rattle.ktm_snapshot.proofs.transaction.read_transaction.Goals as goal
use Rattle.ktm_snapshot.specs.StateGrammar.{IsMarkedOf}

pub returns-in_err-id : goal.returns-in_err-id
returns-in_err-id c = passes _ _ c.from_residual.ensures.1 c.in_err-id.ensures no_transaction

pub returns-in_err-part : goal.returns-in_err-part
returns-in_err-part c =
    let fewer : length c.parts.parts.items < c.in_ok-id.count = omega arith in
    passes _ _ c.from_residual-in_err-part.ensures.1 c.in_err-part.ensures (part_missing c.in_ok-id.stage c.in_ok-id.superior c.in_ok-id.ensures c.parts.parts.items c.parts.invariant.row fewer)

pub parts-preserved : goal.parts-preserved
parts-preserved c = record {
  row = rw c.in_ok-push.ensures.items (row_push IsMarkedOf _ _ _ _ _ _ c.parts.invariant.row c.in_ok-part.ensures);
  counted = ap length c.in_ok-push.ensures.items ∙ length_push _ _ ∙ ap (λ n. n + 1) c.parts.invariant.counted;
  kept = c.parts.invariant.kept;
}

pub returns : goal.returns
returns c = rw c.parts.invariant.kept (transaction_read c.in_ok-id.stage c.in_ok-id.superior c.in_ok-id.ensures c.parts.parts.items c.parts.invariant.row (omega arith))
