use Rattle.ktm_base.specs.Grammar.{IsU32}
use Rattle.ktm_codec.proofs.SpansLemmas.{spans_then}
use Rattle.ktm_event.proofs.Pairs.{Both}
use Rattle.ktm_event.proofs.Parts.{unambiguous_id}
use Rattle.ktm_event.proofs.Readings.{passes, no_first, after}
use Rattle.ktm_snapshot.proofs.Fields.{no_start}
use Rattle.ktm_snapshot.proofs.OnePiece.{unambiguous_stage, unambiguous_superior}
use Rattle.ktm_snapshot.proofs.transaction.start_at.Goals as goal
use Rattle.ktm_snapshot.specs.StateGrammar.{IsStageOf, IsSuperiorOf}

pub returns-in_default : goal.returns-in_default
returns-in_default c = (no_start (no_first (Both IsStageOf (Both IsSuperiorOf IsU32)) (record { none = c.in_default.ensures }))).none

pub returns-in_default-stage_at : goal.returns-in_default-stage_at
returns-in_default-stage_at c =
    (no_start (after unambiguous_id c.in-Some.ensures (no_first (Both IsSuperiorOf IsU32) (record { none = c.in_default-stage_at.ensures })))).none

pub returns-in_err-superior : goal.returns-in_err-superior
returns-in_err-superior c =
    passes _ _ c.from_residual.ensures.1 c.in_err-superior.ensures
    (λ none. no_start (after unambiguous_id c.in-Some.ensures (after unambiguous_stage c.in-Some-stage_at.ensures (no_first IsU32 none))))

pub returns-in_default-u32_at : goal.returns-in_default-u32_at
returns-in_default-u32_at c =
    (no_start (after unambiguous_id c.in-Some.ensures (after unambiguous_stage c.in-Some-stage_at.ensures (after unambiguous_superior c.in_ok-superior.ensures (record { none = c.in_default-u32_at.ensures }))))).none

pub returns : goal.returns
returns c =
    spans_then _ _ _ _ c.in-Some.ensures (spans_then _ _ _ _ c.in-Some-stage_at.ensures (spans_then _ _ _ _ c.in_ok-superior.ensures c.in-Some-u32_at.ensures))
