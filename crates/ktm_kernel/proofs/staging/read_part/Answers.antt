use Rattle.ktm_kernel.proofs.Filled.{read-alone}
use Rattle.ktm_kernel.proofs.staging.read_part.Goals as goal

pub returns-in-Ok-clause-rows : goal.returns-in-Ok-clause-rows
returns-in-Ok-clause-rows g c = λ row shown agrees.
    let (shows, is) = c.in-Ok.ensures.rows row shown agrees in
    (shows, read-alone row c.args.content c.args.offset c.args.most c.new-bytes.result.items c.read_content.new.onto.items c.new-bytes.ensures.items is)
