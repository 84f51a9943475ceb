use Rattle.std.proofs.Common.{◌≡◌, ◌<◌, ◌^◌, ◌∙◌, ◌+◌, [], Some, ap, arith, subst, sym}
use Rattle.ktm_world.specs.Tree.{units_of}
use Rattle.txf_overlay.specs.Edits.{edited}
use Rattle.txf_overlay.specs.Files.{files_in}
use Rattle.txf_overlay.specs.OverlayState.{Written}
use Rattle.txf_overlay.specs.Pages.{LieOnPages}
use Rattle.txf_overlay.specs.Written.{bytes_or, total_units, with_bytes}
use Rattle.txf_overlay.proofs.FilesMap.{counted_edited, edited_there, is_written, not_written, units_at, units-with, units-without, with_bytes-same}
use Rattle.txf_overlay.proofs.files.WrittenFiles.edit.Goals as goal

pub edit_new-requires-clause-absent : goal.edit_new-requires-clause-absent
edit_new-requires-clause-absent c =
    not_written _ c.args.file c.self.invariant.map.are c.ranges.file.fits (rw c.number_bytes.ensures at c.in_default.ensures.value)

pub edit_new-requires-clause-few : goal.edit_new-requires-clause-few
edit_new-requires-clause-few c =
    rw (edit_new-requires-clause-absent c) at (rw (← c.self.view_is) at c.requires.few)

pub edit_new-requires-clause-can : goal.edit_new-requires-clause-can
edit_new-requires-clause-can c =
    rw (edit_new-requires-clause-absent c) at (rw (← c.self.view_is) at c.requires.can)

pub edit-requires : goal.edit-requires
edit-requires c =
    let there = is_written _ c.args.file _ c.self.invariant.map.are c.ranges.file.fits (rw c.number_bytes.ensures at c.in-Some.ensures.value) in
    rw there.bytes at (rw (← c.self.view_is) at c.requires.can)

pub returns-in_default-clause-ok : goal.returns-in_default-clause-ok
returns-in_default-clause-ok c =
    let absent = not_written _ c.args.file c.self.invariant.map.are c.ranges.file.fits (rw c.number_bytes.ensures at c.in_default.ensures.value) in
    rw (← c.self.view_is, absent) c.edit_new.ensures.ok

pub returns-in_default-clause-enough : goal.returns-in_default-clause-enough
returns-in_default-clause-enough c =
    let absent = not_written _ c.args.file c.self.invariant.map.are c.ranges.file.fits (rw c.number_bytes.ensures at c.in_default.ensures.value) in
    rw (← c.self.view_is, absent) (λ has. absurd has)

pub invariant_of-self-in-Err : goal.invariant_of-self-in-Err
invariant_of-self-in-Err c =
    let there = is_written _ c.args.file _ c.self.invariant.map.are c.ranges.file.fits (rw c.number_bytes.ensures at c.in-Some.ensures.value) in
    let same = c.in-Err.ensures.err in
    rw c.number_bytes.ensures
    (counted_edited _ _ _ _ c.args.file _ _ c.self.invariant
    (edited_there _ c.args.file _ c.edit.new.self c.self.invariant.map c.ranges.file.fits there (ap (λ (w : Written). w.file) same))
    (subst (λ (w : Written). LieOnPages w.bytes) (sym same) c.units-before.ensures.pages)
    (ap (bytes_or []) there.bytes) (ap (λ (w : Written). c.self.inside.units + units_of w.bytes) (sym same)))

pub returns-in-Err-clause-err : goal.returns-in-Err-clause-err
returns-in-Err-clause-err c =
    let there = is_written _ c.args.file _ c.self.invariant.map.are c.ranges.file.fits (rw c.number_bytes.ensures at c.in-Some.ensures.value) in
    let same = c.in-Err.ensures.err in
    rw (← c.self.view_is, c.number_bytes.ensures)
    ((edited_there _ c.args.file _ c.edit.new.self c.self.invariant.map c.ranges.file.fits there (ap (λ (w : Written). w.file) same)).files
    ∙ with_bytes-same _ c.args.file _ c.self.invariant.map.rise (there.bytes ∙ ap (λ (w : Written). Some w.bytes) (sym same)))

pub returns-in-Err-clause-enough : goal.returns-in-Err-clause-enough
returns-in-Err-clause-enough c =
    let there = is_written _ c.args.file _ c.self.invariant.map.are c.ranges.file.fits (rw c.number_bytes.ensures at c.in-Some.ensures.value) in
    rw (← c.self.view_is, there.bytes) c.in-Err.ensures.enough

pub overflow_sub-self : goal.overflow_sub-self
overflow_sub-self c =
    let ws = files_in c.self.inside.map.entries in
    let there = is_written _ c.args.file _ c.self.invariant.map.are c.ranges.file.fits (rw c.number_bytes.ensures at c.in-Some.ensures.value) in
    let known : units_at ws c.args.file ≡ units_of c.in-Some.written.now.bytes = ap (λ o. units_of (bytes_or [] o)) there.bytes in
    omega (arith, known, c.units-before.ensures.units, c.self.invariant.sum, units-without ws c.args.file c.self.invariant.map.rise)

pub overflow_add-self : goal.overflow_add-self
overflow_add-self c =
    let ws = files_in c.self.inside.map.entries in
    let was = c.in-Some.written.now.bytes in
    let there = is_written _ c.args.file _ c.self.invariant.map.are c.ranges.file.fits (rw c.number_bytes.ensures at c.in-Some.ensures.value) in
    let known : units_at ws c.args.file ≡ units_of was = ap (λ o. units_of (bytes_or [] o)) there.bytes in
    let few : total_units (with_bytes ws c.args.file (edited was c.args.edit)) < 2 ^ 64 = rw there.bytes at (rw (← c.self.view_is) at c.requires.few) in
    let after : c.units-after.result ≡ units_of (edited was c.args.edit) = c.units-after.ensures.units ∙ ap (λ (w : Written). units_of w.bytes) c.in_default-edit.ensures.ok in
    omega (
      arith,
      known,
      few,
      after,
      c.units-before.ensures.units,
      c.self.invariant.sum,
      units-without ws c.args.file c.self.invariant.map.rise,
      units-with ws c.args.file (edited was c.args.edit) c.self.invariant.map.rise,
    )

pub invariant_of-self-2 : goal.invariant_of-self-2
invariant_of-self-2 c =
    let ws = files_in c.self.inside.map.entries in
    let there = is_written _ c.args.file _ c.self.invariant.map.are c.ranges.file.fits (rw c.number_bytes.ensures at c.in-Some.ensures.value) in
    let known : units_at ws c.args.file ≡ units_of c.in-Some.written.now.bytes = ap (λ o. units_of (bytes_or [] o)) there.bytes in
    rw c.number_bytes.ensures
    (counted_edited _ _ _ _ c.args.file _ _ c.self.invariant
    (edited_there _ c.args.file _ c.edit.new.self c.self.invariant.map c.ranges.file.fits there (ap (λ (w : Written). w.file) c.in_default-edit.ensures.ok))
    c.units-after.ensures.pages
    (ap (bytes_or []) there.bytes)
    (omega (
      arith,
      known,
      c.units-before.ensures.units,
      c.units-after.ensures.units,
      c.self.invariant.sum,
      units-without ws c.args.file c.self.invariant.map.rise,
    )))

pub returns-clause-ok : goal.returns-clause-ok
returns-clause-ok c =
    let ws = files_in c.self.inside.map.entries in
    let there = is_written _ c.args.file _ c.self.invariant.map.are c.ranges.file.fits (rw c.number_bytes.ensures at c.in-Some.ensures.value) in
    rw (← c.self.view_is, c.number_bytes.ensures)
    ((edited_there _ c.args.file _ c.edit.new.self c.self.invariant.map c.ranges.file.fits there (ap (λ (w : Written). w.file) c.in_default-edit.ensures.ok)).files
    ∙ ap (with_bytes ws c.args.file)
    (ap (λ (w : Written). w.bytes) c.in_default-edit.ensures.ok ∙ ap (λ o. edited (bytes_or c.args.first o) c.args.edit) (sym there.bytes)))
