use Rattle.std.proofs.Common.{◌≡◌, false, refl, subst, arith}
use Rattle.std.specs.Prelude.{IsOk}
use Rattle.ktm_core.specs.Memory.{present_of}
use Rattle.ktm_core.specs.Takes.{takes_memory}
use Rattle.ktm_world.specs.declared.command.Command.TheVariants.{SetEndOfFile}
use Rattle.ktm_world.specs.declared.command.Line.TheVariants.{Process}
use Rattle.ktm_world.specs.Decide.{decide, refusal_of}
use Rattle.ktm_kernel.specs.Stands.{KernelState}
use Rattle.ktm_kernel.proofs.Given.{end-takes, rows-seen}
use Rattle.ktm_kernel.proofs.StagedCalls.{end-done, may-stage, staged-askable, staged-call, staged-enough, staged-ready}
use Rattle.ktm_kernel.proofs.kernel.Kernel.set_end.Goals as goal

pub stage_end-staged-requires-clause-may : goal.stage_end-staged-requires-clause-may
stage_end-staged-requires-clause-may g c = may-stage c.self.inside.core.memory c.self.inside.core.store _ _ (rw (← c.self.view_is) at c.requires.up) refl (rw (← c.self.view_is) at c.requires.ready)

pub stage_end-staged-requires-clause-headed : goal.stage_end-staged-requires-clause-headed
stage_end-staged-requires-clause-headed g c = (rw (← c.self.view_is) at c.requires.ready).powered.image (rw (← c.self.view_is) at c.requires.up)

pub ask-requires-clause-ready : goal.ask-requires-clause-ready
ask-requires-clause-ready g c = staged-ready c.self.inside.core.memory c.self.inside.core.store c.stage_end-staged.new.store (Process c.args.process (SetEndOfFile c.args.file c.args.size)) (decide (present_of c.self.inside.core.memory) c.args.process (SetEndOfFile c.args.file c.args.size)) (refusal_of (present_of c.self.inside.core.memory) c.args.process (SetEndOfFile c.args.file c.args.size))
    _ _ _ _ 1 (rw (← c.self.view_is) at c.requires.up) (rw (← c.self.view_is) at c.requires.ready) c.stage_end-staged.ensures.places c.stage_end-staged.result c.stage_end-staged.ensures.reads

pub ask-requires-clause-askable : goal.ask-requires-clause-askable
ask-requires-clause-askable g c = staged-askable c.self.inside.core.memory c.self.inside.core.store c.stage_end-staged.new.store (Process c.args.process (SetEndOfFile c.args.file c.args.size)) (decide (present_of c.self.inside.core.memory) c.args.process (SetEndOfFile c.args.file c.args.size)) (refusal_of (present_of c.self.inside.core.memory) c.args.process (SetEndOfFile c.args.file c.args.size))
    (g.D.Disk.told c.args.disk.now) (g.D.Disk.told c.args.disk.now) (g.D.Disk.status c.args.disk.now) _ 1 (rw (← c.self.view_is) at c.requires.up) (rw (← c.self.view_is) at c.requires.ready) c.stage_end-staged.ensures.places c.stage_end-staged.result c.stage_end-staged.ensures.asks

pub returns-clause-leaves : goal.returns-clause-leaves
returns-clause-leaves g c = rw (← c.self.view_is) (staged-call (record { standing = c.law_of_standing.ensures; kept = c.law_of_kept.ensures; reserves = c.law_of_reserved_files.ensures; spelling = c.law_of_spelling.ensures; alike = c.law_of_alike_presents.ensures; seen = rows-seen c.law_of_paged_records.ensures; pages = c.law_of_pages.ensures }) c.law_of_units.ensures.0 c.args.process (SetEndOfFile c.args.file c.args.size) c.requires.command c.self.inside.core.memory c.self.inside.core.store c.stage_end-staged.new.store
    _ _ _ _ 1 (rw (← c.self.view_is) at c.requires.up) (rw (← c.self.view_is) at c.requires.ready) (rw (← c.self.view_is) at c.requires.counts) (omega arith) (omega arith) refl (refusal_of (present_of c.self.inside.core.memory) c.args.process (SetEndOfFile c.args.file c.args.size)) (end-done (present_of c.self.inside.core.memory) c.args.process c.args.file c.args.size)
    c.stage_end-staged.result c.stage_end-staged.ensures.reads c.stage_end-staged.ensures.places c.stage_end-staged.ensures.rows c.stage_end-staged.ensures.asks c.ask.new.self _ _ c.ask.result c.ask.ensures).0

pub returns-clause-no_memory : goal.returns-clause-no_memory
returns-clause-no_memory g c = rw (← c.self.view_is) (staged-call (record { standing = c.law_of_standing.ensures; kept = c.law_of_kept.ensures; reserves = c.law_of_reserved_files.ensures; spelling = c.law_of_spelling.ensures; alike = c.law_of_alike_presents.ensures; seen = rows-seen c.law_of_paged_records.ensures; pages = c.law_of_pages.ensures }) c.law_of_units.ensures.0 c.args.process (SetEndOfFile c.args.file c.args.size) c.requires.command c.self.inside.core.memory c.self.inside.core.store c.stage_end-staged.new.store
    _ _ _ _ 1 (rw (← c.self.view_is) at c.requires.up) (rw (← c.self.view_is) at c.requires.ready) (rw (← c.self.view_is) at c.requires.counts) (omega arith) (omega arith) refl (refusal_of (present_of c.self.inside.core.memory) c.args.process (SetEndOfFile c.args.file c.args.size)) (end-done (present_of c.self.inside.core.memory) c.args.process c.args.file c.args.size)
    c.stage_end-staged.result c.stage_end-staged.ensures.reads c.stage_end-staged.ensures.places c.stage_end-staged.ensures.rows c.stage_end-staged.ensures.asks c.ask.new.self _ _ c.ask.result c.ask.ensures).1

pub returns-clause-enough : goal.returns-clause-enough
returns-clause-enough g c = subst (λ (k : KernelState). takes_memory k.now c.args.process (SetEndOfFile c.args.file c.args.size) ≡ false → IsOk c.ask.result) c.self.view_is (staged-enough (present_of c.self.inside.core.memory) c.stage_end-staged.new.store (Process c.args.process (SetEndOfFile c.args.file c.args.size)) (decide (present_of c.self.inside.core.memory) c.args.process (SetEndOfFile c.args.file c.args.size)) (refusal_of (present_of c.self.inside.core.memory) c.args.process (SetEndOfFile c.args.file c.args.size))
    _ _ (takes_memory (present_of c.self.inside.core.memory) c.args.process (SetEndOfFile c.args.file c.args.size)) (end-takes (present_of c.self.inside.core.memory) c.args.process c.args.file c.args.size) c.stage_end-staged.result c.stage_end-staged.ensures.asks _ _ c.ask.result c.ask.ensures)
