use Rattle.std.proofs.Common.{◌≡◌, ℕ, List, [], true, false, sym, subst}
use Rattle.std.proofs.lemmas.Bool.{both_ways}
use Rattle.ktm_base.specs.declared.refusal.Refusal.TheVariants.{MachineDown}
use Rattle.ktm_core.specs.Done.{fallen}
use Rattle.ktm_log.specs.OnDisk.{on}
use Rattle.ktm_world.specs.declared.command.Line.TheVariants.{Process}
use Rattle.ktm_world.specs.declared.reply.Reply.TheVariants.{Contents, Refused}
use Rattle.ktm_world.specs.Decide.{decide}
use Rattle.ktm_kernel.specs.Answers.{IsLineAnswered}
use Rattle.ktm_core.specs.Memory.{present_of}
use Rattle.ktm_core.specs.Takes.{takes_memory}
use Rattle.ktm_world.specs.declared.command.Command.TheVariants.{ReadFile}
use Rattle.ktm_kernel.specs.Stands.{KernelState, kernel_of}
use Rattle.ktm_kernel.proofs.Given.{rows-seen}
use Rattle.ktm_kernel.proofs.Reading.{read-answered, read-fell, read-refused, read-takes, seen-below}
use Rattle.ktm_kernel.proofs.kernel.Kernel.read.Goals as goal

pub returns-in-Err-clause-leaves : goal.returns-in-Err-clause-leaves
returns-in-Err-clause-leaves g c = subst (λ (k : KernelState). IsLineAnswered (Process c.args.process (ReadFile c.args.file c.args.offset c.args.length)) (decide k.now c.args.process (ReadFile c.args.file c.args.offset c.args.length)) (on k (g.D.Disk.told c.args.disk.now) (g.D.Disk.status c.args.disk.now)) (on (kernel_of c.self.inside.core.memory c.self.inside.core.store) (g.D.Disk.told c.args.disk.now) (g.D.Disk.status c.args.disk.now)) (Refused c.in-Err.refusal)) c.self.view_is
    (read-refused (record { standing = c.law_of_standing.ensures; kept = c.law_of_kept.ensures; reserves = c.law_of_reserved_files.ensures; spelling = c.law_of_spelling.ensures; alike = c.law_of_alike_presents.ensures; seen = rows-seen c.law_of_paged_records.ensures; pages = c.law_of_pages.ensures }) c.law_of_units.ensures c.self.inside.core.memory c.self.inside.core.store c.self.inside.core.store c.args.process c.args.file c.args.offset c.args.length c.requires.command (g.D.Disk.told c.args.disk.now) (g.D.Disk.told c.args.disk.now) (g.D.Disk.status c.args.disk.now) (g.D.Disk.status c.args.disk.now) (rw (← c.self.view_is) at c.requires.up) (rw (← c.self.view_is) at c.requires.ready) (rw (← c.self.view_is) at c.requires.counts) c.in-Err.refusal (c.in-Err.ensures.err c.args.offset))

pub read_part-requires-clause-wanted : goal.read_part-requires-clause-wanted
read_part-requires-clause-wanted g c = ((((rw (← c.self.view_is) at c.requires.ready).core (rw (← c.self.view_is) at c.requires.up)).ready []).powered).wanted (rw (← c.self.view_is) at c.requires.up)

pub read_part-requires-clause-below : goal.read_part-requires-clause-below
read_part-requires-clause-below g c = seen-below c.self.inside.core.store.marks (present_of c.self.inside.core.memory) c.args.process c.args.file c.in-Ok.places ((rw (← c.self.view_is) at c.requires.ready).core (rw (← c.self.view_is) at c.requires.up)).held c.in-Ok.ensures.named

pub returns-in-Err-Down-clause-leaves : goal.returns-in-Err-Down-clause-leaves
returns-in-Err-Down-clause-leaves g c = rw c.fall.ensures (subst (λ (k : KernelState). IsLineAnswered (Process c.args.process (ReadFile c.args.file c.args.offset c.args.length)) (decide k.now c.args.process (ReadFile c.args.file c.args.offset c.args.length)) (on k (g.D.Disk.told c.args.disk.now) (g.D.Disk.status c.args.disk.now)) (on (record (kernel_of c.self.inside.core.memory c.read_part.new.store) { now = fallen (present_of c.self.inside.core.memory) }) (g.D.Disk.told c.read_part.new.disk) (g.D.Disk.status c.read_part.new.disk)) (Refused MachineDown)) c.self.view_is
    (read-fell (record { standing = c.law_of_standing.ensures; kept = c.law_of_kept.ensures; reserves = c.law_of_reserved_files.ensures; spelling = c.law_of_spelling.ensures; alike = c.law_of_alike_presents.ensures; seen = rows-seen c.law_of_paged_records.ensures; pages = c.law_of_pages.ensures }) c.law_of_units.ensures c.self.inside.core.memory c.self.inside.core.store c.read_part.new.store c.args.process c.args.file c.args.offset c.args.length c.requires.command (g.D.Disk.told c.args.disk.now) _ (g.D.Disk.status c.args.disk.now) _ (rw (← c.self.view_is) at c.requires.up) (rw (← c.self.view_is) at c.requires.ready) (rw (← c.self.view_is) at c.requires.counts) c.in-Ok.places (c.in-Ok.ensures.ok c.args.offset) c.in-Ok.ensures.named c.read_part.ensures.keeps (rw c.in-Err-Down.field-0-is at c.in-Err-Down.ensures.reads) (λ row shows agrees. ((rw c.journal-journal.ensures at c.in-Err-Down.ensures.rows) row shows agrees).0)))

pub returns-in-Err-NoMemory-clause-enough : goal.returns-in-Err-NoMemory-clause-enough
returns-in-Err-NoMemory-clause-enough g c = subst (λ (k : KernelState). takes_memory k.now c.args.process (ReadFile c.args.file c.args.offset c.args.length) ≡ false → false ≡ true) c.self.view_is
    (λ none. absurd (both_ways (takes_memory (present_of c.self.inside.core.memory) c.args.process (ReadFile c.args.file c.args.offset c.args.length)) none (read-takes (present_of c.self.inside.core.memory) c.args.process c.args.file c.args.offset c.args.length _ (c.in-Ok.ensures.ok c.args.offset))))

pub returns-clause-leaves : goal.returns-clause-leaves
returns-clause-leaves g c = subst (λ (k : KernelState). IsLineAnswered (Process c.args.process (ReadFile c.args.file c.args.offset c.args.length)) (decide k.now c.args.process (ReadFile c.args.file c.args.offset c.args.length)) (on k (g.D.Disk.told c.args.disk.now) (g.D.Disk.status c.args.disk.now)) (on (kernel_of c.self.inside.core.memory c.read_part.new.store) (g.D.Disk.told c.read_part.new.disk) (g.D.Disk.status c.read_part.new.disk)) (Contents c.new.result)) c.self.view_is
    (subst (λ (bytes : List ℕ). IsLineAnswered (Process c.args.process (ReadFile c.args.file c.args.offset c.args.length)) (decide (present_of c.self.inside.core.memory) c.args.process (ReadFile c.args.file c.args.offset c.args.length)) (on (kernel_of c.self.inside.core.memory c.self.inside.core.store) (g.D.Disk.told c.args.disk.now) (g.D.Disk.status c.args.disk.now)) (on (kernel_of c.self.inside.core.memory c.read_part.new.store) (g.D.Disk.told c.read_part.new.disk) (g.D.Disk.status c.read_part.new.disk)) (Contents bytes)) (sym c.new.ensures)
    (read-answered (record { standing = c.law_of_standing.ensures; kept = c.law_of_kept.ensures; reserves = c.law_of_reserved_files.ensures; spelling = c.law_of_spelling.ensures; alike = c.law_of_alike_presents.ensures; seen = rows-seen c.law_of_paged_records.ensures; pages = c.law_of_pages.ensures }) c.law_of_units.ensures c.self.inside.core.memory c.self.inside.core.store c.read_part.new.store c.args.process c.args.file c.args.offset c.args.length c.requires.command (g.D.Disk.told c.args.disk.now) _ (g.D.Disk.status c.args.disk.now) _ (rw (← c.self.view_is) at c.requires.up) (rw (← c.self.view_is) at c.requires.ready) (rw (← c.self.view_is) at c.requires.counts) c.in-Ok.places (c.in-Ok.ensures.ok c.args.offset) c.in-Ok.ensures.named c.read_part.ensures.keeps c.in-Ok-read_part.bytes.items c.in-Ok-read_part.ensures.reads c.in-Ok-read_part.ensures.long (rw c.journal-journal.ensures at c.in-Ok-read_part.ensures.rows)))
