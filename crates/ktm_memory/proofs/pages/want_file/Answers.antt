use Rattle.std.proofs.Common.{length, arith}
use Rattle.ktm_memory.proofs.FewWanted.{file-named}
use Rattle.ktm_memory.proofs.Wanting.{file-below}
use Rattle.ktm_memory.proofs.pages.want_file.Goals as goal

pub want_pages-requires : goal.want_pages-requires
want_pages-requires c = file-below (length c.args.store.now.marks.held) c.args.file.now.file c.args.file.now.len c.args.file.now.pages.now c.if-file-eq0.false c.requires

pub returns-clause-few : goal.returns-clause-few
returns-clause-few c =
    let named = file-named c.args.file.now.file c.args.file.now.len c.args.file.now.pages.now c.if-file-eq0.false in
    let few = c.want_pages.ensures.few in
    omega (arith, named, few)
