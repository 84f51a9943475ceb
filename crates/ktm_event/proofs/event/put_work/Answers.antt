use Rattle.std.proofs.Common.{arith}
use Rattle.std.proofs.lemmas.Result.{err_from_is_err_and}
use Rattle.ktm_world.specs.declared.event.Part.TheVariants.{Changes, Settings, Enlistment}
use Rattle.ktm_event.specs.Work.{changes_of, part_of}
use Rattle.ktm_event.proofs.Writings.{on_ok_so, on_err_so, work, work_size, work_id, work_changes, work_settings, work_enlistment}
use Rattle.ktm_event.proofs.event.put_work.Goals as goal

pub put_tagged_id-requires : goal.put_tagged_id-requires
put_tagged_id-requires g c = work_id c.args.stage (part_of g.F.WrittenFiles.files c.args.work) c.requires.spellable

pub returns-in_err-put_tagged_id-clause-full : goal.returns-in_err-put_tagged_id-clause-full
returns-in_err-put_tagged_id-clause-full g c =
    let p = err_from_is_err_and c.from_residual.result c.from_residual.ensures.1 in
    rw p.1 (omega (arith, c.in_err-put_tagged_id.ensures.full, work_size c.args.stage c.args.transaction (part_of g.F.WrittenFiles.files c.args.work)))

pub put_names_and_files_part-requires-clause-spellable : goal.put_names_and_files_part-requires-clause-spellable
put_names_and_files_part-requires-clause-spellable g c = work_changes c.args.stage c.args.transaction _ (rw c.in-Changes.is at c.requires.spellable)

pub put_names_and_files_part-requires-clause-recordable : goal.put_names_and_files_part-requires-clause-recordable
put_names_and_files_part-requires-clause-recordable g c = rw c.in-Changes.is at c.requires.recordable

pub put_settings_part-requires : goal.put_settings_part-requires
put_settings_part-requires g c = work_settings c.args.stage c.args.transaction _ (rw c.in-Settings.is at c.requires.spellable)

pub put_enlistment-requires : goal.put_enlistment-requires
put_enlistment-requires g c = work_enlistment c.args.stage c.args.transaction _ _ _ (rw c.in-Enlistment.is at c.requires.spellable)

pub returns-in-Changes-clause-adds : goal.returns-in-Changes-clause-adds
returns-in-Changes-clause-adds g c =
    let head = rw c.tag.ensures at c.in_ok-put_tagged_id.ensures.adds in
    rw c.in-Changes.is (on_ok_so c.put_names_and_files_part.result c.put_names_and_files_part.ensures.adds (λ adds. work c.args.stage (Changes (changes_of c.in-Changes.names.now (g.F.WrittenFiles.files c.in-Changes.files.now))) (rw c.in-Changes.is at c.requires.spellable) head adds))

pub returns-in-Changes-clause-len : goal.returns-in-Changes-clause-len
returns-in-Changes-clause-len g c =
    let size = work_size c.args.stage c.args.transaction (Changes (changes_of c.in-Changes.names.now (g.F.WrittenFiles.files c.in-Changes.files.now))) in
    rw c.in-Changes.is (on_ok_so c.put_names_and_files_part.result c.put_names_and_files_part.ensures.len (λ len. omega (arith, len, c.in_ok-put_tagged_id.ensures.len, size)))

pub returns-in-Changes-clause-full : goal.returns-in-Changes-clause-full
returns-in-Changes-clause-full g c =
    let size = work_size c.args.stage c.args.transaction (Changes (changes_of c.in-Changes.names.now (g.F.WrittenFiles.files c.in-Changes.files.now))) in
    rw c.in-Changes.is (on_err_so c.put_names_and_files_part.result c.put_names_and_files_part.ensures.full (λ full. omega (arith, full, c.in_ok-put_tagged_id.ensures.len, c.put_tagged_id.ensures.room, size)))

pub returns-in-Settings-clause-adds : goal.returns-in-Settings-clause-adds
returns-in-Settings-clause-adds g c =
    let head = rw c.tag.ensures at c.in_ok-put_tagged_id.ensures.adds in
    rw c.in-Settings.is (on_ok_so c.put_settings_part.result c.put_settings_part.ensures.adds (λ adds. work c.args.stage (Settings c.in-Settings.settings.now) (rw c.in-Settings.is at c.requires.spellable) head adds))

pub returns-in-Settings-clause-len : goal.returns-in-Settings-clause-len
returns-in-Settings-clause-len g c =
    let size = work_size c.args.stage c.args.transaction (Settings c.in-Settings.settings.now) in
    rw c.in-Settings.is (on_ok_so c.put_settings_part.result c.put_settings_part.ensures.len (λ len. omega (arith, len, c.in_ok-put_tagged_id.ensures.len, size)))

pub returns-in-Settings-clause-full : goal.returns-in-Settings-clause-full
returns-in-Settings-clause-full g c =
    let size = work_size c.args.stage c.args.transaction (Settings c.in-Settings.settings.now) in
    rw c.in-Settings.is (on_err_so c.put_settings_part.result c.put_settings_part.ensures.full (λ full. omega (arith, full, c.in_ok-put_tagged_id.ensures.len, c.put_tagged_id.ensures.room, size)))

pub returns-in-Enlistment-clause-adds : goal.returns-in-Enlistment-clause-adds
returns-in-Enlistment-clause-adds g c =
    let head = rw c.tag.ensures at c.in_ok-put_tagged_id.ensures.adds in
    rw c.in-Enlistment.is (on_ok_so c.put_enlistment.result c.put_enlistment.ensures.adds (λ adds. work c.args.stage (Enlistment c.in-Enlistment.enlistment c.in-Enlistment.manager c.in-Enlistment.information.now) (rw c.in-Enlistment.is at c.requires.spellable) head adds))

pub returns-in-Enlistment-clause-len : goal.returns-in-Enlistment-clause-len
returns-in-Enlistment-clause-len g c =
    let size = work_size c.args.stage c.args.transaction (Enlistment c.in-Enlistment.enlistment c.in-Enlistment.manager c.in-Enlistment.information.now) in
    rw c.in-Enlistment.is (on_ok_so c.put_enlistment.result c.put_enlistment.ensures.len (λ len. omega (arith, len, c.in_ok-put_tagged_id.ensures.len, size)))

pub returns-in-Enlistment-clause-full : goal.returns-in-Enlistment-clause-full
returns-in-Enlistment-clause-full g c =
    let size = work_size c.args.stage c.args.transaction (Enlistment c.in-Enlistment.enlistment c.in-Enlistment.manager c.in-Enlistment.information.now) in
    rw c.in-Enlistment.is (on_err_so c.put_enlistment.result c.put_enlistment.ensures.full (λ full. omega (arith, full, c.in_ok-put_tagged_id.ensures.len, c.put_tagged_id.ensures.room, size)))
