use Rattle.ktm_journal.proofs.Headers.{header_told}
use Rattle.ktm_journal.proofs.header.read_header.Goals as goal

pub returns-clause-told : goal.returns-clause-told
returns-clause-told g c =
    let header = rw c.len.ensures.same at c.in_default.ensures.value in
    let selector = rw (c.read_at.ensures.same, c.len.ensures.same) at c.in_default-read_at.ensures.value in
    header_told c.read_at.new.buf c.read_at-2.new.buf c.in-Ok.len c.front.result _ c.in-Ok.ensures.value header selector c.front.ensures.some c.front.ensures.none
