use Rattle.std.proofs.Common.{length-append, arith}
use Rattle.std.proofs.lemmas.List.Sums.{sum_by-append}
use Rattle.std.proofs.lemmas.Result.{err_from_is_err_and}
use Rattle.std.specs.List.{flat_map}
use Rattle.ktm_world.specs.EventGrammar.{IsChangeOf}
use Rattle.ktm_world.specs.Sizes.{change_size}
use Rattle.ktm_event.specs.Spelling.{IsSpellableChange}
use Rattle.ktm_event.specs.Work.{changes_of_file}
use Rattle.ktm_event.proofs.Rows.{adds_row, all-left, all-right}
use Rattle.ktm_event.proofs.Writings.{then, on_ok_so, on_err_so}
use Rattle.ktm_event.proofs.files.put_names_and_files.Goals as goal

pub put_files-requires : goal.put_files-requires
put_files-requires g c = all-right IsSpellableChange c.args.names.now _ c.requires.spellable.each

pub returns-clause-adds : goal.returns-clause-adds
returns-clause-adds g c =
    let count = rw (c.count_of_changes.ensures, ← length-append c.args.names.now (flat_map changes_of_file (g.F.WrittenFiles.files c.args.files.now))) at c.put_u32.ensures.adds in
    rw (← c.in_ok-reserve.ensures.items)
    (on_ok_so c.put_files.result c.put_files.ensures.adds (λ adds. then count (adds_row IsChangeOf c.args.names.now _ c.in_ok-put_row.ensures.adds adds)))

pub count_of_changes-requires : goal.count_of_changes-requires
count_of_changes-requires g c = omega (arith, length-append c.args.names.now (flat_map changes_of_file (g.F.WrittenFiles.files c.args.files.now)), c.requires.spellable.few)

pub overflow_add-count : goal.overflow_add-count
overflow_add-count g c = omega (arith, c.count_of_changes.ensures, length-append c.args.names.now (flat_map changes_of_file (g.F.WrittenFiles.files c.args.files.now)), c.requires.spellable.few)

pub put_row-requires-clause-spellable : goal.put_row-requires-clause-spellable
put_row-requires-clause-spellable g c = all-left IsSpellableChange c.args.names.now _ c.requires.spellable.each

pub returns-in_err-put_row-clause-full : goal.returns-in_err-put_row-clause-full
returns-in_err-put_row-clause-full g c =
    let p = err_from_is_err_and c.from_residual-in_err-put_row.result c.from_residual-in_err-put_row.ensures.1 in
    let size = sum_by-append change_size c.args.names.now (flat_map changes_of_file (g.F.WrittenFiles.files c.args.files.now)) in
    rw p.1 (omega (arith, c.in_err-put_row.ensures.full, c.put_u32.ensures, c.in_ok-reserve.ensures.len, c.reserve.ensures.capacity, size))

pub returns-clause-len : goal.returns-clause-len
returns-clause-len g c =
    let size = sum_by-append change_size c.args.names.now (flat_map changes_of_file (g.F.WrittenFiles.files c.args.files.now)) in
    on_ok_so c.put_files.result c.put_files.ensures.len (λ len. omega (arith, len, c.in_ok-put_row.ensures.len, size))

pub returns-clause-full : goal.returns-clause-full
returns-clause-full g c =
    let size = sum_by-append change_size c.args.names.now (flat_map changes_of_file (g.F.WrittenFiles.files c.args.files.now)) in
    on_err_so c.put_files.result c.put_files.ensures.full (λ full. omega (arith, full, c.in_ok-put_row.ensures.len, c.put_row.ensures.room, size))
