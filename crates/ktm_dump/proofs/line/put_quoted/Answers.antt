use Rattle.ktm_dump.proofs.Puts.{broken_more, broken_then, put_then}
use Rattle.std.proofs.Common.{[], ◌∷◌}
use Rattle.ktm_dump.proofs.line.put_quoted.Goals as goal

pub returns-in-Err : goal.returns-in-Err
returns-in-Err g c =
    broken_more _ _ _ (34 ∷ []) (broken_more _ _ _ (c.args.text.now) c.in-Err.ensures)

pub returns-in-Err-put : goal.returns-in-Err-put
returns-in-Err-put g c =
    broken_more _ _ _ (34 ∷ []) (broken_then _ _ _ _ _ c.in_default.ensures c.in-Err-put.ensures)

pub returns-in-Err-put-2 : goal.returns-in-Err-put-2
returns-in-Err-put-2 g c =
    broken_then _ _ _ _ _ (put_then _ _ _ _ _ c.in_default.ensures c.in_default-put.ensures) c.in-Err-put-2.ensures

pub returns : goal.returns
returns g c =
    put_then _ _ _ _ _ (put_then _ _ _ _ _ c.in_default.ensures c.in_default-put.ensures) c.in_default-put-2.ensures
