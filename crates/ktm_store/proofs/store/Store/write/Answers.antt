use Rattle.std.proofs.Common.{◌+◌, ◌<◌, min, length, arith}
use Rattle.std.proofs.lemmas.Result.{IfOk-weaker}
use Rattle.ktm_store.proofs.Making.{are-touched, fills, took-pages}
use Rattle.ktm_store.proofs.store.Store.write.Goals as goal

pub returns-clause-took : goal.returns-clause-took
returns-clause-took c =
    let made = rw c.new-change.ensures at c.make.ensures.ok in
    let some : min c.len-len.result c.args.at < c.args.at + length c.args.bytes.now = omega (arith, c.requires.some) in
    IfOk-weaker c.make.result _ _
    (λ part so. took-pages c.args.self.now c.make.new.self c.args.old c.args.bytes.now c.args.head.now c.args.tail.now c.args.at c.len-len.result part.0 part.1 c.len-len.ensures some c.requires.held so) made

pub returns-clause-touched : goal.returns-clause-touched
returns-clause-touched c =
    let made = rw c.new-change.ensures at c.make.ensures.ok in
    let some : min c.len-len.result c.args.at < c.args.at + length c.args.bytes.now = omega (arith, c.requires.some) in
    IfOk-weaker c.make.result _ _
    (λ part so. are-touched c.args.self.now c.make.new.self c.args.old c.args.bytes.now c.args.head.now c.args.tail.now c.args.at c.len-len.result part.0 part.1 c.len-len.ensures some c.requires.held so) made

pub returns-clause-fills : goal.returns-clause-fills
returns-clause-fills c =
    let made = rw c.new-change.ensures at c.make.ensures.ok in
    let some : min c.len-len.result c.args.at < c.args.at + length c.args.bytes.now = omega (arith, c.requires.some) in
    IfOk-weaker c.make.result _ _
    (λ part so row shows edges. fills c.args.self.now c.make.new.self c.args.old c.args.bytes.now c.args.head.now c.args.tail.now c.args.at c.len-len.result part.0 part.1 c.len-len.ensures some c.requires.held so row shows edges.0 edges.1) made
