use Rattle.std.proofs.Common.{◌∙◌, ◌+◌, [], ap, subst, sym}
use Rattle.ktm_world.specs.Tree.{units_of}
use Rattle.txf_overlay.specs.OverlayState.{Written}
use Rattle.txf_overlay.specs.Written.{bytes_or, with_bytes}
use Rattle.txf_overlay.specs.Files.{files_in}
use Rattle.txf_overlay.specs.Pages.{LieOnPages}
use Rattle.txf_overlay.proofs.Pages.{lie-none}
use Rattle.txf_overlay.proofs.FilesMap.{counted_edited, edited_new, free_name, kept_there, none_there, some_there}
use Rattle.txf_overlay.proofs.files.WrittenFiles.add_file.Goals as goal

pub returns-in-Some-clause-written : goal.returns-in-Some-clause-written
returns-in-Some-clause-written c =
    rw (← c.self.view_is)
    (kept_there _ c.args.file c.self.invariant.map.rise (some_there _ c.args.file c.in-Some.field-0.now (rw (← c.self.view_is) at c.in-Some.ensures)))

pub insert-requires-clause-free : goal.insert-requires-clause-free
insert-requires-clause-free c =
    free_name _ c.args.file _ c.self.invariant.map.are c.ranges.file.fits (none_there _ c.args.file (rw (← c.self.view_is) at c.in_default.ensures)) c.number_bytes.ensures

pub invariant_of-self : goal.invariant_of-self
invariant_of-self c =
    let absent = none_there _ c.args.file (rw (← c.self.view_is) at c.in_default.ensures) in
    counted_edited _ _ _ _ c.args.file [] _ c.self.invariant
    (edited_new _ _ c.args.file c.insert.result c.empty.result c.number_bytes.result c.self.invariant.map c.ranges.file.fits absent c.number_bytes.ensures
    (ap (λ (w : Written). w.file) c.empty.ensures) c.insert.ensures.entries) (subst (λ (w : Written). LieOnPages w.bytes) (sym c.empty.ensures) lie-none) (ap (bytes_or []) absent)
    (ap (λ (w : Written). c.self.inside.units + units_of w.bytes) (sym c.empty.ensures))

pub returns-clause-written : goal.returns-clause-written
returns-clause-written c =
    let ws = files_in c.self.inside.map.entries in
    let absent = none_there _ c.args.file (rw (← c.self.view_is) at c.in_default.ensures) in
    rw (← c.self.view_is)
    ((edited_new _ _ c.args.file c.insert.result c.empty.result c.number_bytes.result c.self.invariant.map c.ranges.file.fits absent c.number_bytes.ensures
    (ap (λ (w : Written). w.file) c.empty.ensures) c.insert.ensures.entries).files
    ∙ ap (with_bytes ws c.args.file) (ap (λ (w : Written). w.bytes) c.empty.ensures ∙ ap (bytes_or []) (sym absent)))
