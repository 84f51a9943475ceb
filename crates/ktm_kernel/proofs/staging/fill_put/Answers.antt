use Rattle.std.proofs.Common.{◌≡◌, ◌+◌, Global, Vec, ℕ, length, sym, ◌∙◌, subst}
use Rattle.std.specs.Prelude.{IfSome}
use Rattle.ktm_base.specs.Disk.{OnlyReads}
use Rattle.ktm_content.specs.Contents.{put_over}
use Rattle.ktm_journal.specs.Image.{IsHeaded}
use Rattle.ktm_store.specs.Pool.{head_of, tail_of}
use Rattle.ktm_store.specs.Store.{bytes_at}
use Rattle.ktm_world.specs.Files.{bytes_seen}
use Rattle.txf_volume.specs.Held.{files_of}
use Rattle.ktm_kernel.proofs.Filled.{if-err, is-filled, is-unfilled, marks-then, rows-read, two-reads, went-same}
use Rattle.ktm_kernel.proofs.staging.fill_put.Goals as goal

pub read_tail-requires-clause-headed : goal.read_tail-requires-clause-headed
read_tail-requires-clause-headed g c = subst (λ o. IfSome o (λ s. IsHeaded c.args.memory.now.journal.units c.args.memory.now.journal.image c.args.memory.now.journal.selector s.seen)) (sym c.in_ok-head.ensures.reads.same) c.requires.headed

pub returns-in_err-tail-clause-err : goal.returns-in_err-tail-clause-err
returns-in_err-tail-clause-err g c = if-err c.from_residual-in_err-tail.result (record {
  keeps = marks-then c.args.store.now c.read_head.new.store c.read_tail.new.store c.in_ok-head.ensures.keeps c.in_err-tail.ensures.keeps;
  rows = λ row shown agrees. (rows-read c.args.memory.now.journal.units (g.D.Disk.told c.args.disk.now) (g.D.Disk.told c.read_head.new.disk) c.args.store.now c.read_head.new.store c.read_tail.new.store row
      (c.in_ok-head.head.items ≡ head_of (bytes_at row (bytes_seen (files_of c.args.memory.now.files) c.args.who c.args.node)) c.args.at) (Unit {0})
      c.in_ok-head.ensures.reads.same c.in_ok-head.ensures.keeps (c.in_ok-head.ensures.rows row) (c.in_err-tail.ensures.rows row) shown agrees).0;
})

pub returns-in_err-tail-clause-reads : goal.returns-in_err-tail-clause-reads
returns-in_err-tail-clause-reads g c = subst (λ refused. OnlyReads 2 (g.D.Disk.told c.args.disk.now) (g.D.Disk.told c.read_tail.new.disk) (g.D.Disk.status c.args.disk.now) (g.D.Disk.status c.read_tail.new.disk) refused)
    (went-same (Vec ℕ Global) c.from_residual-in_err-tail.result c.in_err-tail.field-0.0 c.from_residual-in_err-tail.ensures.1)
    (two-reads c.law_of_calls.ensures _ (g.D.Disk.told c.read_head.new.disk) _ _ (g.D.Disk.status c.read_head.new.disk) _ _ c.in_ok-head.ensures.reads c.in_err-tail.ensures.reads)

pub returns-in-Ok-clause-ok : goal.returns-in-Ok-clause-ok
returns-in-Ok-clause-ok g c = is-filled c.args.memory.now.journal.units (g.D.Disk.told c.args.disk.now) c.args.store.now c.read_tail.new.store c.write.new.self
    (marks-then c.args.store.now c.read_head.new.store c.read_tail.new.store c.in_ok-head.ensures.keeps c.in_ok-tail.ensures.keeps)
    (λ before. (c.deref.result.now ≡ head_of before c.args.at) × (c.deref-2.result.now ≡ tail_of before (c.args.at + length c.args.bytes.now))) (bytes_seen (files_of c.args.memory.now.files) c.args.who c.args.node)
    (λ row. rows-read c.args.memory.now.journal.units (g.D.Disk.told c.args.disk.now) (g.D.Disk.told c.read_head.new.disk) c.args.store.now c.read_head.new.store c.read_tail.new.store row
    (c.deref.result.now ≡ head_of (bytes_at row (bytes_seen (files_of c.args.memory.now.files) c.args.who c.args.node)) c.args.at)
    (c.deref-2.result.now ≡ tail_of (bytes_at row (bytes_seen (files_of c.args.memory.now.files) c.args.who c.args.node)) (c.args.at + length c.args.bytes.now))
    c.in_ok-head.ensures.reads.same c.in_ok-head.ensures.keeps
    (λ shown agrees. let (shows, is) = c.in_ok-head.ensures.rows row shown agrees in (shows, c.deref.ensures.value ∙ is))
    (λ shown agrees. let (shows, is) = c.in_ok-tail.ensures.rows row shown agrees in (shows, c.deref-2.ensures.value ∙ is)))
    (λ before. put_over before c.args.at c.args.bytes.now) c.args.at (c.args.at + length c.args.bytes.now) c.in-Ok.made.0 c.in-Ok.made.1 c.bytes_seen.result c.bytes_seen.ensures
    c.in-Ok.ensures.took c.in-Ok.ensures.touched c.in-Ok.ensures.fills

pub returns-in-Ok-clause-reads : goal.returns-in-Ok-clause-reads
returns-in-Ok-clause-reads g c = two-reads c.law_of_calls.ensures _ (g.D.Disk.told c.read_head.new.disk) _ _ (g.D.Disk.status c.read_head.new.disk) _ _ c.in_ok-head.ensures.reads c.in_ok-tail.ensures.reads

pub returns-clause-err : goal.returns-clause-err
returns-clause-err g c = is-unfilled c.args.memory.now.journal.units (g.D.Disk.told c.args.disk.now) c.args.store.now c.read_tail.new.store c.write.new.self
    (marks-then c.args.store.now c.read_head.new.store c.read_tail.new.store c.in_ok-head.ensures.keeps c.in_ok-tail.ensures.keeps) c.in-Err.ensures.err
    (λ row shown agrees. (rows-read c.args.memory.now.journal.units (g.D.Disk.told c.args.disk.now) (g.D.Disk.told c.read_head.new.disk) c.args.store.now c.read_head.new.store c.read_tail.new.store row
    (c.in_ok-head.head.items ≡ head_of (bytes_at row (bytes_seen (files_of c.args.memory.now.files) c.args.who c.args.node)) c.args.at)
    (c.in_ok-tail.tail.items ≡ tail_of (bytes_at row (bytes_seen (files_of c.args.memory.now.files) c.args.who c.args.node)) (c.args.at + length c.args.bytes.now))
    c.in_ok-head.ensures.reads.same c.in_ok-head.ensures.keeps (c.in_ok-head.ensures.rows row) (c.in_ok-tail.ensures.rows row) shown agrees).0)

pub returns-clause-reads : goal.returns-clause-reads
returns-clause-reads g c = two-reads c.law_of_calls.ensures _ (g.D.Disk.told c.read_head.new.disk) _ _ (g.D.Disk.status c.read_head.new.disk) _ _ c.in_ok-head.ensures.reads c.in_ok-tail.ensures.reads
