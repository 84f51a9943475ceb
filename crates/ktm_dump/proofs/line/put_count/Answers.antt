use Rattle.ktm_dump.proofs.Puts.{broken_more, broken_then, put_then}
use Rattle.ktm_dump.proofs.line.put_count.Goals as goal

pub returns-in-Err : goal.returns-in-Err
returns-in-Err g c = broken_more _ _ _ _ c.in-Err.ensures

pub returns-in-Err-put_number : goal.returns-in-Err-put_number
returns-in-Err-put_number g c = broken_then _ _ _ _ _ c.in_default.ensures c.in-Err-put_number.ensures

pub returns : goal.returns
returns g c = put_then _ _ _ _ _ c.in_default.ensures c.in_default-put_number.ensures
