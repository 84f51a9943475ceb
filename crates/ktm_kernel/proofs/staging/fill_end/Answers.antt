use Rattle.std.proofs.Common.{◌≡◌, ◌∙◌}
use Rattle.ktm_content.specs.Contents.{cut_to}
use Rattle.ktm_store.specs.Pool.{head_of}
use Rattle.ktm_world.specs.Files.{bytes_seen}
use Rattle.txf_volume.specs.Held.{files_of}
use Rattle.ktm_kernel.proofs.Filled.{is-filled, is-unfilled}
use Rattle.ktm_kernel.proofs.staging.fill_end.Goals as goal

pub returns-in-Ok-clause-ok : goal.returns-in-Ok-clause-ok
returns-in-Ok-clause-ok g c = is-filled c.args.memory.now.journal.units (g.D.Disk.told c.args.disk.now) c.args.store.now c.read_head.new.store c.grow.new.self c.in_ok-head.ensures.keeps
    (λ before. c.deref.result.now ≡ head_of before c.args.size) (bytes_seen (files_of c.args.memory.now.files) c.args.who c.args.node)
    (λ row shown agrees. let (shows, is) = c.in_ok-head.ensures.rows row shown agrees in (shows, c.deref.ensures.value ∙ is))
    (λ before. cut_to before c.args.size) c.args.size c.args.size c.in-Ok.made.0 c.in-Ok.made.1 c.bytes_seen.result c.bytes_seen.ensures
    c.in-Ok.ensures.took c.in-Ok.ensures.touched c.in-Ok.ensures.fills

pub returns-clause-err : goal.returns-clause-err
returns-clause-err g c = is-unfilled c.args.memory.now.journal.units (g.D.Disk.told c.args.disk.now) c.args.store.now c.read_head.new.store c.grow.new.self c.in_ok-head.ensures.keeps c.in-Err.ensures.err
    (λ row shown agrees. (c.in_ok-head.ensures.rows row shown agrees).0)
