use Rattle.std.proofs.Common.{arith}
use Rattle.ktm_event.proofs.Writings.{on_ok_so, on_err_so}
use Rattle.ktm_event.proofs.change.put_change.Goals as goal

pub returns-in-Make-clause-adds : goal.returns-in-Make-clause-adds
returns-in-Make-clause-adds c = rw c.in-Make.is (rw c.as_slice.ensures at c.put_make.ensures.adds)

pub returns-in-Make-clause-len : goal.returns-in-Make-clause-len
returns-in-Make-clause-len c = rw c.in-Make.is (on_ok_so c.put_make.result (rw c.as_slice.ensures at c.put_make.ensures.len) (λ len. omega (arith, len)))

pub returns-in-Make-clause-full : goal.returns-in-Make-clause-full
returns-in-Make-clause-full c = rw c.in-Make.is (on_err_so c.put_make.result (rw c.as_slice.ensures at c.put_make.ensures.full) (λ full. omega (arith, full)))

pub put_cut-requires : goal.put_cut-requires
put_cut-requires c = rw c.as_slice-in-Cut.ensures (rw c.in-Cut.is at c.requires.spellable)

pub returns-in-Cut-clause-adds : goal.returns-in-Cut-clause-adds
returns-in-Cut-clause-adds c = rw c.in-Cut.is (rw c.as_slice-in-Cut.ensures at c.put_cut.ensures.adds)

pub returns-in-Cut-clause-len : goal.returns-in-Cut-clause-len
returns-in-Cut-clause-len c = rw c.in-Cut.is (on_ok_so c.put_cut.result (rw c.as_slice-in-Cut.ensures at c.put_cut.ensures.len) (λ len. omega (arith, len)))

pub returns-in-Cut-clause-full : goal.returns-in-Cut-clause-full
returns-in-Cut-clause-full c = rw c.in-Cut.is (on_err_so c.put_cut.result (rw c.as_slice-in-Cut.ensures at c.put_cut.ensures.full) (λ full. omega (arith, full)))

pub returns-in-Move-clause-adds : goal.returns-in-Move-clause-adds
returns-in-Move-clause-adds c = rw c.in-Move.is (rw c.as_slice-in-Move.ensures at c.put_move.ensures.adds)

pub returns-in-Move-clause-len : goal.returns-in-Move-clause-len
returns-in-Move-clause-len c = rw c.in-Move.is (on_ok_so c.put_move.result (rw c.as_slice-in-Move.ensures at c.put_move.ensures.len) (λ len. omega (arith, len)))

pub returns-in-Move-clause-full : goal.returns-in-Move-clause-full
returns-in-Move-clause-full c = rw c.in-Move.is (on_err_so c.put_move.result (rw c.as_slice-in-Move.ensures at c.put_move.ensures.full) (λ full. omega (arith, full)))
