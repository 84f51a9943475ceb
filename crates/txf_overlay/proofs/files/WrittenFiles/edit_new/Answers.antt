use Rattle.std.proofs.Common.{◌≡◌, ◌<◌, ◌^◌, ◌∙◌, [], None, ap, arith}
use Rattle.ktm_world.specs.Tree.{units_of}
use Rattle.txf_overlay.specs.Edits.{edited}
use Rattle.txf_overlay.specs.Files.{files_in}
use Rattle.txf_overlay.specs.OverlayState.{Written}
use Rattle.txf_overlay.specs.Written.{bytes_at, bytes_or, file_of, total_units, with_bytes}
use Rattle.txf_overlay.proofs.FilesMap.{counted_edited, edited_new, free_name, units_at, units-with}
use Rattle.txf_overlay.proofs.files.WrittenFiles.edit_new.Goals as goal

pub overflow_add-self : goal.overflow_add-self
overflow_add-self c =
    let ws = files_in c.self.inside.map.entries in
    let bytes = edited c.args.first c.args.edit in
    let absent : bytes_at ws c.args.file ≡ None = rw (← c.self.view_is) at c.requires.absent in
    let few : total_units (with_bytes ws c.args.file bytes) < 2 ^ 64 = rw (← c.self.view_is) at c.requires.few in
    let none : units_at ws c.args.file ≡ 0 = ap (λ o. units_of (bytes_or [] o)) absent in
    let new : c.edit.new.self ≡ file_of c.args.file bytes =
    c.in_ok-edit.ensures.ok ∙ ap (λ (w : Written). record w { bytes = edited w.bytes c.args.edit }) c.in_ok-written.ensures in
    let units : c.units.result ≡ units_of bytes = c.units.ensures.units ∙ ap (λ (w : Written). units_of w.bytes) new in
    omega (arith, few, none, units, c.self.invariant.sum, units-with ws c.args.file bytes c.self.invariant.map.rise)

pub insert-requires-clause-free : goal.insert-requires-clause-free
insert-requires-clause-free c =
    rw c.in_ok-reserve.ensures.entries
    (free_name _ c.args.file _ c.self.invariant.map.are c.ranges.file.fits (rw (← c.self.view_is) at c.requires.absent) c.number_bytes.ensures)

pub invariant_of-self-2 : goal.invariant_of-self-2
invariant_of-self-2 c =
    let absent : bytes_at (files_in c.self.inside.map.entries) c.args.file ≡ None = rw (← c.self.view_is) at c.requires.absent in
    let new : c.edit.new.self ≡ file_of c.args.file (edited c.args.first c.args.edit) =
    c.in_ok-edit.ensures.ok ∙ ap (λ (w : Written). record w { bytes = edited w.bytes c.args.edit }) c.in_ok-written.ensures in
    counted_edited _ _ _ _ c.args.file [] _ c.self.invariant
    (edited_new _ _ c.args.file c.insert.result c.edit.new.self c.number_bytes.result c.self.invariant.map c.ranges.file.fits absent c.number_bytes.ensures
    (ap (λ (w : Written). w.file) new) (rw c.in_ok-reserve.ensures.entries at c.insert.ensures.entries)) c.units.ensures.pages (ap (bytes_or []) absent)
    (omega (arith, c.units.ensures.units))

pub returns-clause-ok : goal.returns-clause-ok
returns-clause-ok c =
    let ws = files_in c.self.inside.map.entries in
    let absent : bytes_at ws c.args.file ≡ None = rw (← c.self.view_is) at c.requires.absent in
    let new : c.edit.new.self ≡ file_of c.args.file (edited c.args.first c.args.edit) =
    c.in_ok-edit.ensures.ok ∙ ap (λ (w : Written). record w { bytes = edited w.bytes c.args.edit }) c.in_ok-written.ensures in
    rw (← c.self.view_is)
    ((edited_new _ _ c.args.file c.insert.result c.edit.new.self c.number_bytes.result c.self.invariant.map c.ranges.file.fits absent c.number_bytes.ensures
    (ap (λ (w : Written). w.file) new) (rw c.in_ok-reserve.ensures.entries at c.insert.ensures.entries)).files
    ∙ ap (λ (w : Written). with_bytes ws c.args.file w.bytes) new)
