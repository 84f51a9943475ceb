use Rattle.std.proofs.Common.{arith}
use Rattle.ktm_store.proofs.Free.{free-front, free-less, free-same}
use Rattle.ktm_store.proofs.marks.freed.Goals as goal

pub returns-then-page-next : goal.returns-then-page-next
returns-then-page-next c = omega (arith, free-front c.args.held.now c.args.next c.args.page c.if-page-next.true)

pub returns-then-held-page : goal.returns-then-held-page
returns-then-held-page c = omega (arith, free-same c.args.held.now c.args.next c.args.page c.if-held-page.true)

pub returns : goal.returns
returns c = omega (arith, free-less c.args.held.now c.args.next c.args.page c.requires c.if-page-next.false c.if-held-page.false)
