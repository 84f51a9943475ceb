use Rattle.std.proofs.Common.{arith}
use Rattle.ktm_event.proofs.Writings.{on_ok_so, on_err_so}
use Rattle.ktm_event.proofs.event.write_event.Goals as goal

pub put_single-requires-clause-part : goal.put_single-requires-clause-part
put_single-requires-clause-part c = (rw c.in-Single.is at c.requires.spellable).1

pub put_held-requires-clause-superior : goal.put_held-requires-clause-superior
put_held-requires-clause-superior c = rw c.as_slice.ensures (rw c.in-Held.is at c.requires.spellable).1

pub returns-in-Held-clause-adds : goal.returns-in-Held-clause-adds
returns-in-Held-clause-adds c = rw c.in-Held.is (rw c.as_slice.ensures at c.put_held.ensures.adds)

pub returns-in-Held-clause-len : goal.returns-in-Held-clause-len
returns-in-Held-clause-len c = rw c.in-Held.is (on_ok_so c.put_held.result (rw c.as_slice.ensures at c.put_held.ensures.len) (λ len. omega (arith, len)))

pub returns-in-Held-clause-full : goal.returns-in-Held-clause-full
returns-in-Held-clause-full c = rw c.in-Held.is (on_err_so c.put_held.result (rw c.as_slice.ensures at c.put_held.ensures.full) (λ full. omega (arith, full)))

pub returns-in-Boot : goal.returns-in-Boot
returns-in-Boot c = rw c.in-Boot.is c.put_boot.ensures

pub returns-in-MadeRm : goal.returns-in-MadeRm
returns-in-MadeRm c = rw c.in-MadeRm.is c.put_tagged_id.ensures

pub returns-in-Decide : goal.returns-in-Decide
returns-in-Decide c = rw c.in-Decide.is c.put_tagged_id-in-Decide.ensures

pub returns-in-Undo : goal.returns-in-Undo
returns-in-Undo c = rw c.in-Undo.is c.put_tagged_id-in-Undo.ensures

pub returns-in-Plain-clause-adds : goal.returns-in-Plain-clause-adds
returns-in-Plain-clause-adds c = rw c.in-Plain.is c.put_plain.ensures.adds

pub returns-in-Plain-clause-len : goal.returns-in-Plain-clause-len
returns-in-Plain-clause-len c = rw c.in-Plain.is (on_ok_so c.put_plain.result c.put_plain.ensures.len (λ len. omega (arith, len)))

pub returns-in-Plain-clause-full : goal.returns-in-Plain-clause-full
returns-in-Plain-clause-full c = rw c.in-Plain.is (on_err_so c.put_plain.result c.put_plain.ensures.full (λ full. omega (arith, full)))

pub returns-in-Ready-clause-adds : goal.returns-in-Ready-clause-adds
returns-in-Ready-clause-adds c = rw c.in-Ready.is c.put_ready.ensures.adds

pub returns-in-Ready-clause-len : goal.returns-in-Ready-clause-len
returns-in-Ready-clause-len c = rw c.in-Ready.is (on_ok_so c.put_ready.result c.put_ready.ensures.len (λ len. omega (arith, len)))

pub returns-in-Ready-clause-full : goal.returns-in-Ready-clause-full
returns-in-Ready-clause-full c = rw c.in-Ready.is (on_err_so c.put_ready.result c.put_ready.ensures.full (λ full. omega (arith, full)))

pub returns-in-Single-clause-adds : goal.returns-in-Single-clause-adds
returns-in-Single-clause-adds c = rw c.in-Single.is c.put_single.ensures.adds

pub returns-in-Single-clause-len : goal.returns-in-Single-clause-len
returns-in-Single-clause-len c = rw c.in-Single.is (on_ok_so c.put_single.result c.put_single.ensures.len (λ len. omega (arith, len)))

pub returns-in-Single-clause-full : goal.returns-in-Single-clause-full
returns-in-Single-clause-full c = rw c.in-Single.is (on_err_so c.put_single.result c.put_single.ensures.full (λ full. omega (arith, full)))

pub returns-in-Done-clause-adds : goal.returns-in-Done-clause-adds
returns-in-Done-clause-adds c = rw c.in-Done.is c.put_finished.ensures.adds

pub returns-in-Done-clause-len : goal.returns-in-Done-clause-len
returns-in-Done-clause-len c = rw c.in-Done.is (on_ok_so c.put_finished.result c.put_finished.ensures.len (λ len. omega (arith, len)))

pub returns-in-Done-clause-full : goal.returns-in-Done-clause-full
returns-in-Done-clause-full c = rw c.in-Done.is (on_err_so c.put_finished.result c.put_finished.ensures.full (λ full. omega (arith, full)))
