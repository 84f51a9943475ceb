use Rattle.std.proofs.Common.{None, subst, sym}
use Rattle.ktm_memory.specs.Memory.{Shows}
use Rattle.ktm_memory.specs.contracts.memory.Memory.{the_view}
use Rattle.ktm_memory.proofs.Showing.{course_in}
use Rattle.ktm_memory.proofs.memory.Memory.seen.Goals as goal

pub returns : goal.returns
returns c x caller shows =
    let m = the_view c.self.inside in
    c.seen.ensures _ None (course_in m x c.args.t.now None c.has_changes-has_files.result c.has_settings-has_keys.result (subst (λ n. Shows n x) (sym c.self.view_is) shows) c.has_changes-has_files.ensures c.has_settings-has_keys.ensures)
