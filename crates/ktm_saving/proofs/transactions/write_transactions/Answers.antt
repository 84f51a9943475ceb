use Rattle.std.proofs.Common.{◌∙◌, length, map, sym, subst}
use Rattle.std.proofs.lemmas.List.{length-map}
use Rattle.ktm_base.specs.Grammar.{IsU32}
use Rattle.ktm_snapshot.specs.Sizes.{transaction_size}
use Rattle.ktm_snapshot.specs.StateGrammar.{IsTransactionOf}
use Rattle.ktm_trace.specs.Lent.{transaction_lent}
use Rattle.ktm_saving.specs.Owned.{recorded_in}
use Rattle.ktm_saving.specs.Spellable.{IsSpellableTransaction}
use Rattle.ktm_saving.proofs.Lists.{ArePartly, each_next, partly_all, partly_begun, partly_next, room_next}
use Rattle.ktm_saving.proofs.transactions.write_transactions.Goals as goal

pub transactions-init : goal.transactions-init
transactions-init c =
    let with_it = recorded_in c.args.memory.now in
    let all = map with_it c.args.memory.now.trace in
    subst (λ rest. ArePartly (IsU32 (length all)) IsTransactionOf transaction_size 4 all (map with_it rest) c.args.out.now c.put_u32.new.out) (sym (c.transactions-transactions.ensures ∙ c.trace.ensures))
    (partly_begun (IsU32 (length all)) IsTransactionOf transaction_size 4 all c.args.out.now (c.law_of_writing.ensures.transactions.0 (length all)) c.put_u32.new.out
    (record { adds = rw (length-map, ← c.trace.ensures, ← c.transactions-transactions.ensures, ← c.len.ensures) c.put_u32.ensures.adds; len = c.put_u32.ensures.len; room = c.put_u32.ensures.room }))

pub write_transaction-requires-clause-spelled : goal.write_transaction-requires-clause-spelled
write_transaction-requires-clause-spelled c =
    let with_it = recorded_in c.args.memory.now in
    let all = map with_it c.args.memory.now.trace in
    each_next (IsU32 (length all)) IsTransactionOf transaction_size 4 all c.args.out.now IsSpellableTransaction (map with_it c.next.new.self) (with_it (transaction_lent c.in-Some.transaction)) c.transactions.out
    (rw c.in-Some.ensures.first at c.transactions.invariant) c.requires.spelled.each

pub write_transaction-requires-clause-room : goal.write_transaction-requires-clause-room
write_transaction-requires-clause-room c =
    let with_it = recorded_in c.args.memory.now in
    let all = map with_it c.args.memory.now.trace in
    room_next (IsU32 (length all)) IsTransactionOf transaction_size 4 all c.args.out.now (map with_it c.next.new.self) (with_it (transaction_lent c.in-Some.transaction)) c.transactions.out
    (rw c.in-Some.ensures.first at c.transactions.invariant) c.requires.room

pub transactions-preserved : goal.transactions-preserved
transactions-preserved c =
    let with_it = recorded_in c.args.memory.now in
    let all = map with_it c.args.memory.now.trace in
    partly_next (IsU32 (length all)) IsTransactionOf transaction_size 4 all c.args.out.now (c.law_of_writing.ensures.transactions.0 (length all)) (map with_it c.next.new.self) (with_it (transaction_lent c.in-Some.transaction)) c.transactions.out c.write_transaction.new.out
    (rw c.in-Some.ensures.first at c.transactions.invariant) c.write_transaction.ensures

pub returns : goal.returns
returns c =
    let with_it = recorded_in c.args.memory.now in
    let all = map with_it c.args.memory.now.trace in
    let written = partly_all (IsU32 (length all)) IsTransactionOf transaction_size 4 all c.args.out.now c.transactions.out (rw c.in_default.ensures.none at c.transactions.invariant) in
    record { adds = c.law_of_writing.ensures.transactions.1 all c.args.out.now.items c.transactions.out.items written.adds c.requires.rise; len = written.len; room = written.room }
