use Rattle.std.proofs.Common.{◌+◌, ◌<◌, [], min, arith}
use Rattle.std.proofs.lemmas.Result.{IfOk-weaker}
use Rattle.ktm_store.proofs.Making.{are-touched, fills, grown-pages, grown-took, grown-touched, no-tail, took-pages}
use Rattle.ktm_store.proofs.store.Store.grow.Goals as goal

pub returns-clause-took : goal.returns-clause-took
returns-clause-took c =
    let made = rw c.new-change.ensures at c.make.ensures.ok in
    let some : min c.len-len.result c.args.size < c.args.size + 0 = omega (arith, c.requires.longer, c.len-len.ensures) in
    IfOk-weaker c.make.result _ _
    (λ part so.
    grown-took c.args.old c.args.size c.args.self.now c.make.new.self part.0 part.1
    (took-pages c.args.self.now c.make.new.self c.args.old [] c.args.head.now [] c.args.size c.len-len.result part.0 part.1 c.len-len.ensures some c.requires.held so)) made

pub returns-clause-touched : goal.returns-clause-touched
returns-clause-touched c =
    let made = rw c.new-change.ensures at c.make.ensures.ok in
    let some : min c.len-len.result c.args.size < c.args.size + 0 = omega (arith, c.requires.longer, c.len-len.ensures) in
    IfOk-weaker c.make.result _ _
    (λ part so.
    grown-touched c.args.old c.args.size c.args.self.now c.make.new.self part.0 part.1
    (are-touched c.args.self.now c.make.new.self c.args.old [] c.args.head.now [] c.args.size c.len-len.result part.0 part.1 c.len-len.ensures some c.requires.held so)) made

pub returns-clause-fills : goal.returns-clause-fills
returns-clause-fills c =
    let made = rw c.new-change.ensures at c.make.ensures.ok in
    let some : min c.len-len.result c.args.size < c.args.size + 0 = omega (arith, c.requires.longer, c.len-len.ensures) in
    IfOk-weaker c.make.result _ _
    (λ part so row shows edge.
    let found = fills c.args.self.now c.make.new.self c.args.old [] c.args.head.now [] c.args.size c.len-len.result part.0 part.1 c.len-len.ensures some c.requires.held so row shows edge (no-tail c.args.old row c.args.size c.requires.longer) in
    (found.0, grown-pages c.args.old c.args.size c.args.self.now c.make.new.self part.0 part.1 row found.0 c.requires.longer found.1)) made
