use Rattle.std.proofs.Common.{sym, ◌∙◌, subst}
use Rattle.ktm_base.specs.declared.refusal.Refusal.TheVariants.{MachineDown}
use Rattle.ktm_each.specs.Each.{EachOfFiles}
use Rattle.ktm_log.specs.OnDisk.{on}
use Rattle.ktm_memory.specs.Held.{files_of}
use Rattle.ktm_memory.specs.Memory.{MemoryState, present_of}
use Rattle.ktm_memory.specs.Rules.{Follows}
use Rattle.ktm_route.specs.Route.{decided}
use Rattle.ktm_store.specs.Pool.{on_row}
use Rattle.ktm_world.specs.declared.reply.Reply.TheVariants.{Refused}
use Rattle.ktm_core.specs.Answers.{IsAnswered, asked_completes, asked_owes_more, asked_writes}
use Rattle.ktm_core.specs.Core.{core_of}
use Rattle.ktm_core.proofs.Puts.{shows-alike}
use Rattle.ktm_core.proofs.Waiting.{same_marks, torn_answered, unwritten, written_answered}
use Rattle.ktm_core.proofs.machine.Core.answer.Goals as goal

pub returns-then-not-must_write-clause-leaves : goal.returns-then-not-must_write-clause-leaves
returns-then-not-must_write-clause-leaves g c = λ row shows.
    unwritten (asked_completes c.args.asked) (asked_owes_more c.args.asked) (asked_writes c.args.asked) (decided (present_of c.args.self.now.memory) c.args.asked) _ _ c.in_ok-reply.reply (c.in_ok-reply.ensures.leaves row shows)

pub returns-in-Err-clause-leaves : goal.returns-in-Err-clause-leaves
returns-in-Err-clause-leaves g c = λ row shows. (
    let a = c.args.self.now.memory in
    let m = c.answer_asked.new.self.memory in
    let t = on_row c.args.self.now.store row in
    let u = on_row c.answer_asked.new.self.store row in
    let v = on_row c.write_waiting.new.store row in
    let o = decided (present_of a) c.args.asked in
    let must = c.must_write.ensures c.if-not-must_write.false in
    let answered = c.in_ok-reply.ensures.leaves row shows in
    let marks = same_marks _ _ a m o c.in_ok-reply.reply t u _ _ _ _ answered c.requires.up must.1 in
    rw c.fall.ensures.says
    (subst (λ w. IsAnswered (asked_completes c.args.asked) (asked_owes_more c.args.asked) w o (on (core_of a t) (g.D.Disk.told c.args.disk.now) (g.D.Disk.status c.args.disk.now)) (on (core_of c.fall.new.memory v) (g.D.Disk.told c.write_waiting.new.disk) (g.D.Disk.status c.write_waiting.new.disk)) (Refused MachineDown))
    (sym must.0 ∙ c.writes-writes.ensures)
    (torn_answered _ _ a m o c.in_ok-reply.reply t u _ _ _ _ answered c.requires.up must.1 (c.in_ok-reply.ensures.none must.2) v _ _
    (rw c.journal.ensures at c.in-Err.ensures.leaves row (shows-alike c.args.self.now.store c.answer_asked.new.self.store row c.in_ok-reply.ensures.shows marks shows)) c.fall.new.memory c.fall.ensures.falls)))

pub returns-in-Err-clause-rules : goal.returns-in-Err-clause-rules
returns-in-Err-clause-rules g c = λ rule none files puts.
    subst (λ (b : MemoryState). EachOfFiles (Follows rule) (files_of b.files)) (sym c.fall.ensures.falls) (c.in_ok-reply.ensures.rules rule none files puts)

pub returns-clause-leaves : goal.returns-clause-leaves
returns-clause-leaves g c = λ row shows. (
    let a = c.args.self.now.memory in
    let m = c.answer_asked.new.self.memory in
    let t = on_row c.args.self.now.store row in
    let u = on_row c.answer_asked.new.self.store row in
    let v = on_row c.write_waiting.new.store row in
    let o = decided (present_of a) c.args.asked in
    let must = c.must_write.ensures c.if-not-must_write.false in
    let answered = c.in_ok-reply.ensures.leaves row shows in
    let marks = same_marks _ _ a m o c.in_ok-reply.reply t u _ _ _ _ answered c.requires.up must.1 in
    subst (λ w. IsAnswered (asked_completes c.args.asked) (asked_owes_more c.args.asked) w o (on (core_of a t) (g.D.Disk.told c.args.disk.now) (g.D.Disk.status c.args.disk.now)) (on (core_of m v) (g.D.Disk.told c.write_waiting.new.disk) (g.D.Disk.status c.write_waiting.new.disk)) c.in_ok-reply.reply)
    (sym must.0 ∙ c.writes-writes.ensures)
    (written_answered _ _ a m o c.in_ok-reply.reply t u _ _ _ _ answered c.requires.up must.1 (c.in_ok-reply.ensures.none must.2) v _ _
    (rw c.journal.ensures at c.in_default.ensures.leaves row (shows-alike c.args.self.now.store c.answer_asked.new.self.store row c.in_ok-reply.ensures.shows marks shows))))
