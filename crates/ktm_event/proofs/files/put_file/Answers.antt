use Rattle.std.proofs.Common.{arith}
use Rattle.std.proofs.lemmas.Result.{err_from_is_err_and}
use Rattle.ktm_event.proofs.FileChanges.{adds_pages, adds_cut, size_pages, size_cut, size_least, spellable_pages}
use Rattle.ktm_event.proofs.files.put_file.Goals as goal

pub overflow_cast-file : goal.overflow_cast-file
overflow_cast-file c =
    let spellable = spellable_pages c.args.file.now.file c.args.file.now.len c.args.file.now.pages.now c.if-file-ne0.true c.requires in
    omega (arith, spellable.1)

pub put_paged-requires : goal.put_paged-requires
put_paged-requires c = spellable_pages c.args.file.now.file c.args.file.now.len c.args.file.now.pages.now c.if-file-ne0.true c.requires

pub returns-in_ok-put_paged-clause-adds : goal.returns-in_ok-put_paged-clause-adds
returns-in_ok-put_paged-clause-adds c =
    adds_pages c.args.file.now.file c.args.file.now.len c.args.file.now.pages.now c.if-file-ne0.true c.in_ok-put_cut.ensures.adds c.in_ok-put_paged.ensures.adds

pub returns-in_err-put_cut-clause-full : goal.returns-in_err-put_cut-clause-full
returns-in_err-put_cut-clause-full c =
    let p = err_from_is_err_and c.from_residual.result c.from_residual.ensures.1 in
    rw p.1 (omega (arith, c.in_err-put_cut.ensures.full, size_least c.args.file.now.file c.args.file.now.len c.args.file.now.pages.now))

pub returns-in_err-put_paged-clause-full : goal.returns-in_err-put_paged-clause-full
returns-in_err-put_paged-clause-full c =
    let p = err_from_is_err_and c.from_residual-in_err-put_paged.result c.from_residual-in_err-put_paged.ensures.1 in
    let size = size_pages c.args.file.now.file c.args.file.now.len c.args.file.now.pages.now c.if-file-ne0.true in
    rw p.1 (omega (arith, c.in_err-put_paged.ensures.full, c.in_ok-put_cut.ensures.len, c.put_cut.ensures.room, size))

pub returns-in_ok-put_paged-clause-len : goal.returns-in_ok-put_paged-clause-len
returns-in_ok-put_paged-clause-len c =
    let size = size_pages c.args.file.now.file c.args.file.now.len c.args.file.now.pages.now c.if-file-ne0.true in
    omega (arith, c.in_ok-put_cut.ensures.len, c.in_ok-put_paged.ensures.len, size)

pub returns-else-file-ne0-clause-adds : goal.returns-else-file-ne0-clause-adds
returns-else-file-ne0-clause-adds c = adds_cut c.args.file.now.file c.args.file.now.len c.args.file.now.pages.now c.if-file-ne0.false c.in_ok-put_cut.ensures.adds

pub returns-else-file-ne0-clause-len : goal.returns-else-file-ne0-clause-len
returns-else-file-ne0-clause-len c =
    omega (arith, c.in_ok-put_cut.ensures.len, size_cut c.args.file.now.file c.args.file.now.len c.args.file.now.pages.now c.if-file-ne0.false)
