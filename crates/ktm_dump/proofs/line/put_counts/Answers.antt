use Rattle.ktm_dump.proofs.Puts.{broken_more, broken_then, put_then}
use Rattle.ktm_dump.proofs.line.put_counts.Goals as goal

pub returns-in-Err : goal.returns-in-Err
returns-in-Err g c = broken_more _ _ _ _ (broken_more _ _ _ _ (broken_more _ _ _ _ (broken_more _ _ _ _ c.in-Err.ensures)))

pub returns-in-Err-put_count : goal.returns-in-Err-put_count
returns-in-Err-put_count g c = broken_more _ _ _ _ (broken_more _ _ _ _ (broken_more _ _ _ _ (broken_then _ _ _ _ _ c.in_default.ensures c.in-Err-put_count.ensures)))

pub returns-in-Err-put_count-2 : goal.returns-in-Err-put_count-2
returns-in-Err-put_count-2 g c = broken_more _ _ _ _ (broken_more _ _ _ _ (broken_then _ _ _ _ _ (put_then _ _ _ _ _ c.in_default.ensures c.in_default-put_count.ensures) c.in-Err-put_count-2.ensures))

pub returns-in-Err-put_count-3 : goal.returns-in-Err-put_count-3
returns-in-Err-put_count-3 g c = broken_more _ _ _ _ (broken_then _ _ _ _ _ (put_then _ _ _ _ _ (put_then _ _ _ _ _ c.in_default.ensures c.in_default-put_count.ensures) c.in_default-put_count-2.ensures) c.in-Err-put_count-3.ensures)

pub returns-in-Err-put : goal.returns-in-Err-put
returns-in-Err-put g c = broken_then _ _ _ _ _ (put_then _ _ _ _ _ (put_then _ _ _ _ _ (put_then _ _ _ _ _ c.in_default.ensures c.in_default-put_count.ensures) c.in_default-put_count-2.ensures) c.in_default-put_count-3.ensures) c.in-Err-put.ensures

pub returns : goal.returns
returns g c = put_then _ _ _ _ _ (put_then _ _ _ _ _ (put_then _ _ _ _ _ (put_then _ _ _ _ _ c.in_default.ensures c.in_default-put_count.ensures) c.in_default-put_count-2.ensures) c.in_default-put_count-3.ensures) c.in_default-put.ensures
