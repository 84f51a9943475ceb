use Rattle.std.proofs.Common.{◌≤◌, ◌*◌, sym, subst, arith}
use Rattle.ktm_base.specs.declared.limits.TheConstants.{UNIT_BYTES}
use Rattle.ktm_each.specs.Each.{EachOfFiles}
use Rattle.ktm_core.specs.Memory.{present_of}
use Rattle.txf_volume.specs.Held.{files_of}
use Rattle.ktm_kernel.proofs.Rooms.{within-units}
use Rattle.ktm_kernel.proofs.Stages.{clear-count, files-below}
use Rattle.ktm_kernel.proofs.staging.make_room.Goals as goal

pub hold_pages-requires : goal.hold_pages-requires
hold_pages-requires c = subst (λ n. EachOfFiles (λ file index place. place ≤ n * UNIT_BYTES) (files_of c.args.memory.now.files)) (sym (clear-count _ _ c.clear.ensures.marks))
    (files-below (files_of c.args.memory.now.files) c.args.store.now c.requires.may.held)

pub returns-then-from-units-clause-free : goal.returns-then-from-units-clause-free
returns-then-from-units-clause-free c =
    let used = within-units (present_of c.args.memory.now) c.requires.may.standing in
    omega (arith, used, c.requires.may.recorded, c.requires.may.count, c.requires.few, c.clear.ensures.marks.free, c.hold_pages.ensures.free)
