use Rattle.std.proofs.Common.{arith}
use Rattle.ktm_memory.specs.Memory.{present_of}
use Rattle.ktm_saving.proofs.compaction.compact.Goals as goal

pub compact-requires-clause-fits : goal.compact-requires-clause-fits
compact-requires-clause-fits g c =
    let s = (present_of c.args.memory.now).recorded in
    let size = c.law_of_states.ensures.size s c.write_state.new.out.items c.write_state.ensures.state in
    let fits = c.law_of_snapshots.ensures s c.requires.kept.good in
    rw c.as_slice.ensures.value (omega (arith, size, fits))
