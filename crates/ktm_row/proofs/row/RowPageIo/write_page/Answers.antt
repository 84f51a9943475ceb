use Rattle.ktm_row.proofs.Steps.{lost-after, lost-rested, wrote-after}
use Rattle.ktm_row.proofs.row.RowPageIo.write_page.Goals as goal

pub returns-in-Err-clause-err : goal.returns-in-Err-clause-err
returns-in-Err-clause-err g c = rw (c.in-Err.ensures.begin, c.in-Err.ensures.pages) (lost-rested c.args.page _ _ c.in-Err.ensures.rested)

pub returns-in-Err-put_page-clause-err : goal.returns-in-Err-put_page-clause-err
returns-in-Err-put_page-clause-err g c =
    rw (c.in_default.ensures.begin, c.in_default.ensures.pages)
    (lost-after c.args.page _ _ _ c.in_default.ensures.rested (rw (c.in_default.ensures.begin, c.in_default.ensures.pages) at c.in-Err-put_page.ensures.err))

pub returns-clause-ok : goal.returns-clause-ok
returns-clause-ok g c =
    rw (c.in_default.ensures.begin, c.in_default.ensures.pages)
    (wrote-after c.args.page c.args.bytes.now _ _ _ c.in_default.ensures.rested (rw (c.in_default.ensures.begin, c.in_default.ensures.pages) at c.in_default-put_page.ensures.ok))
