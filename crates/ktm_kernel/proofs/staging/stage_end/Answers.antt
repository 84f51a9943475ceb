use Rattle.std.proofs.Common.{List, ℕ, length, Ok, refl, sym, arith, subst}
use Rattle.ktm_content.specs.Contents.{cut_to}
use Rattle.ktm_content.specs.Places.{byte_at}
use Rattle.ktm_core.specs.Asked.TheVariants.{Call, Units}
use Rattle.ktm_core.specs.Core.{AreSoundFiles}
use Rattle.ktm_core.specs.Extent.TheVariants.{End}
use Rattle.ktm_core.specs.Memory.{present_of}
use Rattle.ktm_store.specs.Store.{AreHeld, touched}
use Rattle.ktm_world.specs.declared.command.Command.TheVariants.{SetEndOfFile}
use Rattle.ktm_world.specs.Decide.{decide}
use Rattle.ktm_world.specs.Files.{bytes_seen}
use Rattle.txf_volume.specs.Held.{files_of}
use Rattle.ktm_kernel.specs.Staging.{ComesTo}
use Rattle.ktm_kernel.specs.declared.staging.Staged.TheVariants.{Ask, Refuse}
use Rattle.ktm_kernel.proofs.Asking.{call-asks, cuts-can, end-asks, end-comes, end-refused, seen-held}
use Rattle.ktm_kernel.proofs.Filled.{comes-none, filled-places, filled-rows, nothing-rows, of-target, sound-there, unfilled-places, unfilled-rows}
use Rattle.ktm_kernel.proofs.Given.{command-over, states-apart}
use Rattle.ktm_kernel.proofs.Rooms.{few-units}
use Rattle.ktm_kernel.proofs.staging.stage_end.Goals as goal

pub returns-in-Err-clause-rows : goal.returns-in-Err-clause-rows
returns-in-Err-clause-rows g c = nothing-rows (files_of c.args.memory.now.files) c.args.memory.now.journal.units (g.D.Disk.told c.args.disk.now) c.args.store.now c.requires.may.held
    (ComesTo (present_of c.args.memory.now) (λ y. decide y c.args.process (SetEndOfFile c.args.file c.args.size)) (Ok (Refuse c.in-Err.refusal)))
    (λ row. end-refused c.law_of_units.ensures row (present_of c.args.memory.now) c.args.process c.args.file c.args.size c.in-Err.refusal c.in-Err.ensures.err)

pub returns-then-size-len-clause-rows : goal.returns-then-size-len-clause-rows
returns-then-size-len-clause-rows g c = nothing-rows (files_of c.args.memory.now.files) c.args.memory.now.journal.units (g.D.Disk.told c.args.disk.now) c.args.store.now c.requires.may.held
    (ComesTo (present_of c.args.memory.now) (λ y. decide y c.args.process (SetEndOfFile c.args.file c.args.size)) (Ok (Ask (Call c.args.process (SetEndOfFile c.args.file c.args.size)))))
    (λ row. command-over c.law_of_units.ensures c.law_of_alike_presents.ensures (byte_at row) refl (present_of c.args.memory.now) c.args.process (SetEndOfFile c.args.file c.args.size) tt)

pub returns-then-size-len-clause-asks : goal.returns-then-size-len-clause-asks
returns-then-size-len-clause-asks g c = (
  call-asks c.law_of_units.ensures c.law_of_alike_presents.ensures (present_of c.args.memory.now) c.args.process (SetEndOfFile c.args.file c.args.size) c.args.store.now
      (cuts-can (present_of c.args.memory.now) c.args.process c.args.file c.args.size c.in-Ok.target c.requires.command c.in-Ok.ensures.ok.target (omega (arith, c.len.ensures, c.if-size-len.true))) tt
      (subst (λ n. AreSoundFiles n (files_of c.args.memory.now.files)) (sym c.requires.may.count) c.requires.may.sound),
  c.in-Ok.ensures.passes,
)

pub fill_end-requires-clause-held : goal.fill_end-requires-clause-held
fill_end-requires-clause-held g c = subst (λ (xs : List ℕ). AreHeld c.make_room.new.store.marks.held xs) c.in-Ok.ensures.ok.target.contents
    (seen-held c.make_room.new.store.marks (files_of c.args.memory.now.files) c.make_room.ensures.keeps.held c.in-Ok.target c.in-Ok.ensures.ok.target.contents)

pub fill_end-requires-clause-ends : goal.fill_end-requires-clause-ends
fill_end-requires-clause-ends g c =
    let most = few-units (present_of c.args.memory.now) c.requires.may.standing in
    omega (arith, c.in-Ok.ensures.ok.small, most)

pub returns-in_err-start-clause-places : goal.returns-in_err-start-clause-places
returns-in_err-start-clause-places g c = unfilled-places (files_of c.args.memory.now.files) c.args.memory.now.journal.units (g.D.Disk.told c.args.disk.now) c.args.store.now c.make_room.new.store c.requires.may.held c.make_room.ensures.seen c.make_room.ensures.stored c.make_room.ensures.keeps
    c.fill_end.new.store c.in_err-start.ensures.err

pub returns-in_err-start-clause-rows : goal.returns-in_err-start-clause-rows
returns-in_err-start-clause-rows g c = unfilled-rows (files_of c.args.memory.now.files) c.args.memory.now.journal.units (g.D.Disk.told c.args.disk.now) c.args.store.now c.make_room.new.store c.requires.may.held c.make_room.ensures.seen c.make_room.ensures.stored c.make_room.ensures.keeps
    c.fill_end.new.store c.in_err-start.ensures.err (ComesTo (present_of c.args.memory.now) (λ y. decide y c.args.process (SetEndOfFile c.args.file c.args.size)) c.from_residual.result)
    (comes-none (present_of c.args.memory.now) (λ y. decide y c.args.process (SetEndOfFile c.args.file c.args.size)) c.from_residual.result c.from_residual.ensures.0)

pub returns-clause-places : goal.returns-clause-places
returns-clause-places g c = filled-places (files_of c.args.memory.now.files) c.args.memory.now.journal.units (g.D.Disk.told c.args.disk.now) c.args.store.now c.make_room.new.store c.requires.may.held c.make_room.ensures.seen c.make_room.ensures.stored c.make_room.ensures.keeps
    (λ before. cut_to before c.args.size) c.args.size c.args.size (touched (length (bytes_seen (files_of c.args.memory.now.files) c.in-Ok.target.who c.in-Ok.target.node)) c.args.size c.args.size)
    (bytes_seen (files_of c.args.memory.now.files) c.in-Ok.target.who c.in-Ok.target.node) c.fill_end.new.store c.in_ok-start.start c.in_ok-start.contents c.in_ok-start.ensures.ok

pub returns-clause-rows : goal.returns-clause-rows
returns-clause-rows g c = filled-rows (files_of c.args.memory.now.files) c.args.memory.now.journal.units (g.D.Disk.told c.args.disk.now) c.args.store.now c.make_room.new.store c.requires.may.held c.make_room.ensures.seen c.make_room.ensures.stored c.make_room.ensures.keeps
    (λ before. cut_to before c.args.size) c.args.size c.args.size (touched (length c.in-Ok.target.contents) c.args.size c.args.size) c.in-Ok.target.contents c.fill_end.new.store c.in_ok-start.start c.in_ok-start.contents
    (of-target c.in-Ok.target (bytes_seen (files_of c.args.memory.now.files) c.in-Ok.target.who c.in-Ok.target.node) c.in-Ok.ensures.ok.target.contents (λ before. cut_to before c.args.size) c.args.size c.args.size
    c.args.memory.now.journal.units (g.D.Disk.told c.args.disk.now) c.make_room.new.store c.fill_end.new.store c.in_ok-start.start c.in_ok-start.contents c.in_ok-start.ensures.ok)
    (ComesTo (present_of c.args.memory.now) (λ y. decide y c.args.process (SetEndOfFile c.args.file c.args.size)) (Ok (Ask (Units c.args.process c.args.file c.in_ok-start.start c.in_ok-start.contents End))))
    (end-comes c.law_of_units.ensures c.law_of_alike_presents.ensures c.law_of_files.ensures (states-apart c.law_of_paged_records.ensures) (present_of c.args.memory.now) c.args.process c.args.file c.in-Ok.target c.make_room.new.store c.fill_end.new.store
    c.in_ok-start.start c.in_ok-start.contents (touched (length c.in-Ok.target.contents) c.args.size c.args.size) (of-target c.in-Ok.target (bytes_seen (files_of c.args.memory.now.files) c.in-Ok.target.who c.in-Ok.target.node) c.in-Ok.ensures.ok.target.contents (λ before. cut_to before c.args.size) c.args.size c.args.size
    c.args.memory.now.journal.units (g.D.Disk.told c.args.disk.now) c.make_room.new.store c.fill_end.new.store c.in_ok-start.start c.in_ok-start.contents c.in_ok-start.ensures.ok).took c.make_room.ensures.keeps.held c.requires.may.standing
    c.args.size (omega (arith, c.len.ensures, c.if-size-len.false)) c.in-Ok.ensures.ok (of-target c.in-Ok.target (bytes_seen (files_of c.args.memory.now.files) c.in-Ok.target.who c.in-Ok.target.node) c.in-Ok.ensures.ok.target.contents (λ before. cut_to before c.args.size) c.args.size c.args.size
    c.args.memory.now.journal.units (g.D.Disk.told c.args.disk.now) c.make_room.new.store c.fill_end.new.store c.in_ok-start.start c.in_ok-start.contents c.in_ok-start.ensures.ok).touched)

pub returns-clause-asks : goal.returns-clause-asks
returns-clause-asks g c = (
  end-asks c.law_of_units.ensures c.law_of_alike_presents.ensures c.law_of_files.ensures (states-apart c.law_of_paged_records.ensures) (present_of c.args.memory.now) c.args.process c.args.file c.in-Ok.target c.make_room.new.store c.fill_end.new.store
      c.in_ok-start.start c.in_ok-start.contents (touched (length c.in-Ok.target.contents) c.args.size c.args.size) (of-target c.in-Ok.target (bytes_seen (files_of c.args.memory.now.files) c.in-Ok.target.who c.in-Ok.target.node) c.in-Ok.ensures.ok.target.contents (λ before. cut_to before c.args.size) c.args.size c.args.size
      c.args.memory.now.journal.units (g.D.Disk.told c.args.disk.now) c.make_room.new.store c.fill_end.new.store c.in_ok-start.start c.in_ok-start.contents c.in_ok-start.ensures.ok).took c.make_room.ensures.keeps.held c.requires.may.standing
      c.args.size (omega (arith, c.len.ensures, c.if-size-len.false)) c.in-Ok.ensures.ok (of-target c.in-Ok.target (bytes_seen (files_of c.args.memory.now.files) c.in-Ok.target.who c.in-Ok.target.node) c.in-Ok.ensures.ok.target.contents (λ before. cut_to before c.args.size) c.args.size c.args.size
      c.args.memory.now.journal.units (g.D.Disk.told c.args.disk.now) c.make_room.new.store c.fill_end.new.store c.in_ok-start.start c.in_ok-start.contents c.in_ok-start.ensures.ok).touched
      (sound-there (present_of c.args.memory.now) c.args.memory.now.journal.units c.args.store.now c.make_room.new.store c.requires.may c.make_room.ensures.keeps) c.requires.command.0,
  c.in-Ok.ensures.passes,
)
