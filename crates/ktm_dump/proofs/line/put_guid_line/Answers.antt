use Rattle.ktm_dump.proofs.Puts.{broken_more, broken_then, put_then}
use Rattle.ktm_dump.proofs.line.put_guid_line.Goals as goal

pub returns-in-Err : goal.returns-in-Err
returns-in-Err g c = broken_more _ _ _ _ (broken_more _ _ _ _ c.in-Err.ensures)

pub returns-in-Err-put_guid : goal.returns-in-Err-put_guid
returns-in-Err-put_guid g c = broken_more _ _ _ _ (broken_then _ _ _ _ _ c.in_default.ensures c.in-Err-put_guid.ensures)

pub returns-in-Err-put : goal.returns-in-Err-put
returns-in-Err-put g c = broken_then _ _ _ _ _ (put_then _ _ _ _ _ c.in_default.ensures c.in_default-put_guid.ensures) c.in-Err-put.ensures

pub returns : goal.returns
returns g c = put_then _ _ _ _ _ (put_then _ _ _ _ _ c.in_default.ensures c.in_default-put_guid.ensures) c.in_default-put.ensures
