use Rattle.std.proofs.Common.{◌+◌, List, ℕ, length, Ok, sym, ap, subst, arith}
use Rattle.std.specs.Prelude.{max}
use Rattle.std.proofs.Math.Nat.{le-max_right}
use Rattle.ktm_content.specs.Contents.{put_over}
use Rattle.ktm_core.specs.Asked.TheVariants.{Units}
use Rattle.ktm_core.specs.Extent.TheVariants.{Put}
use Rattle.ktm_core.specs.Memory.{present_of}
use Rattle.ktm_core.specs.Targets.{MayBeSoLong}
use Rattle.ktm_store.specs.Store.{AreHeld, touched}
use Rattle.ktm_world.specs.declared.command.Command.TheVariants.{WriteFile}
use Rattle.ktm_world.specs.declared.command.Line.TheVariants.{Process}
use Rattle.ktm_world.specs.Decide.{decide}
use Rattle.ktm_world.specs.Files.{bytes_seen}
use Rattle.txf_volume.specs.Held.{files_of}
use Rattle.ktm_kernel.specs.Staging.{ComesTo, IsFilled, MayAsk}
use Rattle.ktm_kernel.specs.declared.staging.Staged.TheVariants.{Ask, Refuse}
use Rattle.ktm_kernel.proofs.Asking.{at-once, seen-held, write-asks, write-comes, write-refused}
use Rattle.ktm_kernel.proofs.Filled.{comes-none, filled-places, filled-rows, nothing-rows, of-target, sound-there, unfilled-places, unfilled-rows}
use Rattle.ktm_kernel.proofs.Given.{states-apart}
use Rattle.ktm_kernel.proofs.Rooms.{few-units}
use Rattle.ktm_kernel.proofs.staging.stage_write.Goals as goal

pub returns-in-Err-clause-rows : goal.returns-in-Err-clause-rows
returns-in-Err-clause-rows g c = nothing-rows (files_of c.args.memory.now.files) c.args.memory.now.journal.units (g.D.Disk.told c.args.disk.now) c.args.store.now c.requires.may.held
    (ComesTo (present_of c.args.memory.now) (λ y. decide y c.args.process (WriteFile c.args.file c.args.offset c.args.bytes.now)) (Ok (Refuse c.in-Err.refusal)))
    (λ row. write-refused c.law_of_units.ensures row (present_of c.args.memory.now) c.args.process c.args.file c.args.offset c.args.bytes.now c.in-Err.refusal (c.in-Err.ensures.err c.args.bytes.now (sym c.len-len.ensures)))

pub overflow_add-end : goal.overflow_add-end
overflow_add-end g c =
    let reaches = le-max_right (length c.in-Ok.target.contents) (c.args.offset + c.len-len.result) in
    let most = few-units (present_of c.args.memory.now) c.requires.may.standing in
    omega (arith, reaches, c.in-Ok.ensures.ok.small, most)

pub fill_put-requires-clause-held : goal.fill_put-requires-clause-held
fill_put-requires-clause-held g c = subst (λ (xs : List ℕ). AreHeld c.make_room.new.store.marks.held xs) c.in-Ok.ensures.ok.target.contents
    (seen-held c.make_room.new.store.marks (files_of c.args.memory.now.files) c.make_room.ensures.keeps.held c.in-Ok.target c.in-Ok.ensures.ok.target.contents)

pub fill_put-requires-clause-ends : goal.fill_put-requires-clause-ends
fill_put-requires-clause-ends g c =
    let reaches = le-max_right (length c.in-Ok.target.contents) (c.args.offset + c.len-len.result) in
    let most = few-units (present_of c.args.memory.now) c.requires.may.standing in
    let same = ap length c.as_slice.ensures in
    omega (arith, reaches, c.in-Ok.ensures.ok.small, most, c.len-len.ensures, same)

pub returns-in_err-start-clause-places : goal.returns-in_err-start-clause-places
returns-in_err-start-clause-places g c = unfilled-places (files_of c.args.memory.now.files) c.args.memory.now.journal.units (g.D.Disk.told c.args.disk.now) c.args.store.now c.make_room.new.store c.requires.may.held c.make_room.ensures.seen c.make_room.ensures.stored c.make_room.ensures.keeps c.fill_put.new.store c.in_err-start.ensures.err

pub returns-in_err-start-clause-rows : goal.returns-in_err-start-clause-rows
returns-in_err-start-clause-rows g c = unfilled-rows (files_of c.args.memory.now.files) c.args.memory.now.journal.units (g.D.Disk.told c.args.disk.now) c.args.store.now c.make_room.new.store c.requires.may.held c.make_room.ensures.seen c.make_room.ensures.stored c.make_room.ensures.keeps
    c.fill_put.new.store c.in_err-start.ensures.err (ComesTo (present_of c.args.memory.now) (λ y. decide y c.args.process (WriteFile c.args.file c.args.offset c.args.bytes.now)) c.from_residual.result)
    (comes-none (present_of c.args.memory.now) (λ y. decide y c.args.process (WriteFile c.args.file c.args.offset c.args.bytes.now)) c.from_residual.result c.from_residual.ensures.0)

pub overflow_cast-result : goal.overflow_cast-result
overflow_cast-result g c =
    let once = at-once (present_of c.args.memory.now) c.args.process c.args.file c.args.offset c.args.bytes.now c.in-Ok.ensures.ok.target.file c.in-Ok.ensures.ok.target.named (c.in-Ok.ensures.passes c.args.bytes.now (sym c.len-len.ensures)) in
    omega (arith, once, c.len-len.ensures)

pub returns-clause-places : goal.returns-clause-places
returns-clause-places g c = filled-places (files_of c.args.memory.now.files) c.args.memory.now.journal.units (g.D.Disk.told c.args.disk.now) c.args.store.now c.make_room.new.store c.requires.may.held c.make_room.ensures.seen c.make_room.ensures.stored c.make_room.ensures.keeps
    (λ before. put_over before c.args.offset c.as_slice.result.now) c.args.offset (c.args.offset + length c.as_slice.result.now) (touched (length (bytes_seen (files_of c.args.memory.now.files) c.in-Ok.target.who c.in-Ok.target.node)) c.args.offset (c.args.offset + length c.as_slice.result.now))
    (bytes_seen (files_of c.args.memory.now.files) c.in-Ok.target.who c.in-Ok.target.node) c.fill_put.new.store c.in_ok-start.start c.in_ok-start.contents c.in_ok-start.ensures.ok

pub returns-clause-rows : goal.returns-clause-rows
returns-clause-rows g c = filled-rows (files_of c.args.memory.now.files) c.args.memory.now.journal.units (g.D.Disk.told c.args.disk.now) c.args.store.now c.make_room.new.store c.requires.may.held c.make_room.ensures.seen c.make_room.ensures.stored c.make_room.ensures.keeps
    (λ before. put_over before c.args.offset c.args.bytes.now) c.args.offset (c.args.offset + length c.args.bytes.now) (touched (length c.in-Ok.target.contents) c.args.offset (c.args.offset + length c.args.bytes.now)) c.in-Ok.target.contents c.fill_put.new.store c.in_ok-start.start c.in_ok-start.contents
    (subst (λ (s : List ℕ). IsFilled (λ before. put_over before c.args.offset s) c.args.offset (c.args.offset + length s) (touched (length c.in-Ok.target.contents) c.args.offset (c.args.offset + length s)) c.in-Ok.target.contents
    c.args.memory.now.journal.units (g.D.Disk.told c.args.disk.now) c.make_room.new.store c.fill_put.new.store c.in_ok-start.start c.in_ok-start.contents) c.as_slice.ensures
    (of-target c.in-Ok.target (bytes_seen (files_of c.args.memory.now.files) c.in-Ok.target.who c.in-Ok.target.node) c.in-Ok.ensures.ok.target.contents (λ before. put_over before c.args.offset c.as_slice.result.now) c.args.offset (c.args.offset + length c.as_slice.result.now)
    c.args.memory.now.journal.units (g.D.Disk.told c.args.disk.now) c.make_room.new.store c.fill_put.new.store c.in_ok-start.start c.in_ok-start.contents c.in_ok-start.ensures.ok))
    (ComesTo (present_of c.args.memory.now) (λ y. decide y c.args.process (WriteFile c.args.file c.args.offset c.args.bytes.now)) (Ok (Ask (Units c.args.process c.args.file c.in_ok-start.start c.in_ok-start.contents (Put c.args.offset c.len-len.result)))))
    (write-comes c.law_of_units.ensures c.law_of_alike_presents.ensures c.law_of_files.ensures (states-apart c.law_of_paged_records.ensures) (present_of c.args.memory.now) c.args.process c.args.file c.in-Ok.target c.make_room.new.store c.fill_put.new.store
    c.in_ok-start.start c.in_ok-start.contents (touched (length c.in-Ok.target.contents) c.args.offset (c.args.offset + length c.args.bytes.now)) (subst (λ (s : List ℕ). IsFilled (λ before. put_over before c.args.offset s) c.args.offset (c.args.offset + length s) (touched (length c.in-Ok.target.contents) c.args.offset (c.args.offset + length s)) c.in-Ok.target.contents
    c.args.memory.now.journal.units (g.D.Disk.told c.args.disk.now) c.make_room.new.store c.fill_put.new.store c.in_ok-start.start c.in_ok-start.contents) c.as_slice.ensures
    (of-target c.in-Ok.target (bytes_seen (files_of c.args.memory.now.files) c.in-Ok.target.who c.in-Ok.target.node) c.in-Ok.ensures.ok.target.contents (λ before. put_over before c.args.offset c.as_slice.result.now) c.args.offset (c.args.offset + length c.as_slice.result.now)
    c.args.memory.now.journal.units (g.D.Disk.told c.args.disk.now) c.make_room.new.store c.fill_put.new.store c.in_ok-start.start c.in_ok-start.contents c.in_ok-start.ensures.ok)).took c.make_room.ensures.keeps.held c.requires.may.standing
    c.args.offset c.args.bytes.now c.requires.some
    (subst (λ n. MayBeSoLong (present_of c.args.memory.now) c.args.process c.args.file (max (length c.in-Ok.target.contents) (c.args.offset + n)) c.in-Ok.target) c.len-len.ensures c.in-Ok.ensures.ok)
    (c.in-Ok.ensures.passes c.args.bytes.now (sym c.len-len.ensures)) (subst (λ (s : List ℕ). IsFilled (λ before. put_over before c.args.offset s) c.args.offset (c.args.offset + length s) (touched (length c.in-Ok.target.contents) c.args.offset (c.args.offset + length s)) c.in-Ok.target.contents
    c.args.memory.now.journal.units (g.D.Disk.told c.args.disk.now) c.make_room.new.store c.fill_put.new.store c.in_ok-start.start c.in_ok-start.contents) c.as_slice.ensures
    (of-target c.in-Ok.target (bytes_seen (files_of c.args.memory.now.files) c.in-Ok.target.who c.in-Ok.target.node) c.in-Ok.ensures.ok.target.contents (λ before. put_over before c.args.offset c.as_slice.result.now) c.args.offset (c.args.offset + length c.as_slice.result.now)
    c.args.memory.now.journal.units (g.D.Disk.told c.args.disk.now) c.make_room.new.store c.fill_put.new.store c.in_ok-start.start c.in_ok-start.contents c.in_ok-start.ensures.ok)).touched)

pub returns-clause-asks : goal.returns-clause-asks
returns-clause-asks g c = (
  subst (λ n. MayAsk (present_of c.args.memory.now) c.fill_put.new.store (Process c.args.process (WriteFile c.args.file c.args.offset c.args.bytes.now)) (decide (present_of c.args.memory.now) c.args.process (WriteFile c.args.file c.args.offset c.args.bytes.now))
      (Units c.args.process c.args.file c.in_ok-start.start c.in_ok-start.contents (Put c.args.offset n))) (sym c.len-len.ensures)
      (write-asks c.law_of_units.ensures c.law_of_alike_presents.ensures c.law_of_files.ensures (states-apart c.law_of_paged_records.ensures) (present_of c.args.memory.now) c.args.process c.args.file c.in-Ok.target c.make_room.new.store c.fill_put.new.store
      c.in_ok-start.start c.in_ok-start.contents (touched (length c.in-Ok.target.contents) c.args.offset (c.args.offset + length c.args.bytes.now)) (subst (λ (s : List ℕ). IsFilled (λ before. put_over before c.args.offset s) c.args.offset (c.args.offset + length s) (touched (length c.in-Ok.target.contents) c.args.offset (c.args.offset + length s)) c.in-Ok.target.contents
      c.args.memory.now.journal.units (g.D.Disk.told c.args.disk.now) c.make_room.new.store c.fill_put.new.store c.in_ok-start.start c.in_ok-start.contents) c.as_slice.ensures
      (of-target c.in-Ok.target (bytes_seen (files_of c.args.memory.now.files) c.in-Ok.target.who c.in-Ok.target.node) c.in-Ok.ensures.ok.target.contents (λ before. put_over before c.args.offset c.as_slice.result.now) c.args.offset (c.args.offset + length c.as_slice.result.now)
      c.args.memory.now.journal.units (g.D.Disk.told c.args.disk.now) c.make_room.new.store c.fill_put.new.store c.in_ok-start.start c.in_ok-start.contents c.in_ok-start.ensures.ok)).took c.make_room.ensures.keeps.held c.requires.may.standing
      c.args.offset c.args.bytes.now c.requires.some
      (subst (λ n. MayBeSoLong (present_of c.args.memory.now) c.args.process c.args.file (max (length c.in-Ok.target.contents) (c.args.offset + n)) c.in-Ok.target) c.len-len.ensures c.in-Ok.ensures.ok)
      (c.in-Ok.ensures.passes c.args.bytes.now (sym c.len-len.ensures)) (subst (λ (s : List ℕ). IsFilled (λ before. put_over before c.args.offset s) c.args.offset (c.args.offset + length s) (touched (length c.in-Ok.target.contents) c.args.offset (c.args.offset + length s)) c.in-Ok.target.contents
      c.args.memory.now.journal.units (g.D.Disk.told c.args.disk.now) c.make_room.new.store c.fill_put.new.store c.in_ok-start.start c.in_ok-start.contents) c.as_slice.ensures
      (of-target c.in-Ok.target (bytes_seen (files_of c.args.memory.now.files) c.in-Ok.target.who c.in-Ok.target.node) c.in-Ok.ensures.ok.target.contents (λ before. put_over before c.args.offset c.as_slice.result.now) c.args.offset (c.args.offset + length c.as_slice.result.now)
      c.args.memory.now.journal.units (g.D.Disk.told c.args.disk.now) c.make_room.new.store c.fill_put.new.store c.in_ok-start.start c.in_ok-start.contents c.in_ok-start.ensures.ok)).touched
      (sound-there (present_of c.args.memory.now) c.args.memory.now.journal.units c.args.store.now c.make_room.new.store c.requires.may c.make_room.ensures.keeps) c.requires.command.0),
  c.in-Ok.ensures.passes c.args.bytes.now (sym c.len-len.ensures),
)
