use Rattle.std.proofs.Common.{◌≡◌, ◌∙◌, [], ap, arith}
use Rattle.ktm_world.specs.Tree.{units_of}
use Rattle.txf_overlay.specs.Files.{files_in}
use Rattle.txf_overlay.specs.Written.{bytes_or}
use Rattle.txf_overlay.proofs.FilesMap.{counted_without, files-without, is_written, not_written, under-bytes, units_at, units-without}
use Rattle.txf_overlay.proofs.files.WrittenFiles.remove.Goals as goal

pub overflow_sub-self : goal.overflow_sub-self
overflow_sub-self c =
    let ws = files_in c.self.inside.map.entries in
    let there = is_written _ c.args.file _ c.self.invariant.map.are c.ranges.file.fits (rw c.number_bytes.ensures at c.in-Some.ensures.value) in
    let known : units_at ws c.args.file ≡ units_of c.in-Some.written.bytes = ap (λ o. units_of (bytes_or [] o)) there.bytes in
    omega (arith, known, c.units.ensures.units, c.self.invariant.sum, units-without ws c.args.file c.self.invariant.map.rise)

pub invariant_of-self : goal.invariant_of-self
invariant_of-self c =
    let ws = files_in c.self.inside.map.entries in
    let there = is_written _ c.args.file _ c.self.invariant.map.are c.ranges.file.fits (rw c.number_bytes.ensures at c.in-Some.ensures.value) in
    let known : units_at ws c.args.file ≡ units_of c.in-Some.written.bytes = ap (λ o. units_of (bytes_or [] o)) there.bytes in
    counted_without _ _ _ _ c.args.file _ c.self.invariant c.ranges.file.fits (rw c.number_bytes.ensures at c.remove.ensures.entries) (ap (bytes_or []) there.bytes)
    (omega (arith, known, c.units.ensures.units, c.self.invariant.sum, units-without ws c.args.file c.self.invariant.map.rise))

pub invariant_of-self-in-None : goal.invariant_of-self-in-None
invariant_of-self-in-None c =
    let absent = not_written _ c.args.file c.self.invariant.map.are c.ranges.file.fits (rw c.number_bytes.ensures at c.in-None.ensures.value) in
    counted_without _ _ _ _ c.args.file [] c.self.invariant c.ranges.file.fits (rw c.number_bytes.ensures at c.remove.ensures.entries) (ap (bytes_or []) absent)
    (omega arith)

pub returns-in-Some-clause-file : goal.returns-in-Some-clause-file
returns-in-Some-clause-file c =
    rw (← c.self.view_is) (rw c.number_bytes.ensures at c.in-Some.ensures.value ∙ under-bytes _ c.args.file c.self.invariant.map.are c.ranges.file.fits)

pub returns-in-None-clause-file : goal.returns-in-None-clause-file
returns-in-None-clause-file c =
    rw (← c.self.view_is) (rw c.number_bytes.ensures at c.in-None.ensures.value ∙ under-bytes _ c.args.file c.self.invariant.map.are c.ranges.file.fits)

pub returns-in-Some-clause-written : goal.returns-in-Some-clause-written
returns-in-Some-clause-written c =
    rw (← c.self.view_is, c.remove.ensures.entries, c.number_bytes.ensures) (files-without _ c.args.file c.self.invariant.map c.ranges.file.fits)

pub returns-in-None-clause-written : goal.returns-in-None-clause-written
returns-in-None-clause-written c =
    rw (← c.self.view_is, c.remove.ensures.entries, c.number_bytes.ensures) (files-without _ c.args.file c.self.invariant.map c.ranges.file.fits)
