use Rattle.std.proofs.Common.{◌∙◌, sym, subst, length, arith}
use Rattle.ktm_saved.proofs.Rest.{reads_all, reads_longer, tested}
use Rattle.ktm_saved.proofs.Whole.{begins_so}
use Rattle.ktm_saved.proofs.read.read_rest.Goals as goal
use Rattle.ktm_saved.specs.Reading.{AreTransactionsRead, front_of}
use Rattle.ktm_saved.specs.Tests.{Against}

pub returns-in_default : goal.returns-in_default
returns-in_default c = λ s same is sound.
    let so = begins_so c.args.bytes.now (front_of c.args.saved.now) c.args.start c.requires.begun s is in
    (rw c.in_default.is at c.in_ok-end.ensures) s (length c.args.bytes.now) (so.0 ∙ sym (tested c.args.saved.now _ c.as_slice.ensures)) (omega (arith, same)) so.1 sound

pub returns-then-end-bytes : goal.returns-then-end-bytes
returns-then-end-bytes c =
    let read = rw c.in-Some.is at c.in_ok-end.ensures in
    let saved = record c.args.saved.now { transactions = c.read_into.new.transactions; waiting = c.read_into.new.waiting } in
    reads_longer c.args.units c.args.bytes.now c.args.start c.in-Some.end saved c.requires.begun (subst (λ (a : Against). AreTransactionsRead a c.args.bytes.now c.args.start c.in-Some.end c.read_into.new.transactions.transactions c.read_into.new.waiting) (tested c.args.saved.now _ c.as_slice.ensures) read) c.if-end-bytes.true

pub returns : goal.returns
returns c =
    let read = rw c.in-Some.is at c.in_ok-end.ensures in
    reads_all c.args.units c.args.bytes.now c.args.start c.in-Some.end _ c.requires.begun (subst (λ (a : Against). AreTransactionsRead a c.args.bytes.now c.args.start c.in-Some.end c.read_into.new.transactions.transactions c.read_into.new.waiting) (tested c.args.saved.now _ c.as_slice.ensures) read)
    c.requires.front c.law_of_spelling.ensures (omega (arith, c.if-end-bytes.false)) c.is_within.result c.is_within.ensures
