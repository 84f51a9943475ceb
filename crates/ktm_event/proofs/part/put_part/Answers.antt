use Rattle.std.proofs.Common.{arith}
use Rattle.ktm_event.proofs.Writings.{on_ok_so, on_err_so}
use Rattle.ktm_event.proofs.part.put_part.Goals as goal

pub returns-in-Enlistment-clause-adds : goal.returns-in-Enlistment-clause-adds
returns-in-Enlistment-clause-adds c = rw c.in-Enlistment.is (rw c.as_slice.ensures at c.put_enlistment.ensures.adds)

pub returns-in-Enlistment-clause-len : goal.returns-in-Enlistment-clause-len
returns-in-Enlistment-clause-len c = rw c.in-Enlistment.is (on_ok_so c.put_enlistment.result (rw c.as_slice.ensures at c.put_enlistment.ensures.len) (λ len. omega (arith, len)))

pub returns-in-Enlistment-clause-full : goal.returns-in-Enlistment-clause-full
returns-in-Enlistment-clause-full c = rw c.in-Enlistment.is (on_err_so c.put_enlistment.result (rw c.as_slice.ensures at c.put_enlistment.ensures.full) (λ full. omega (arith, full)))

pub returns-in-Changes-clause-adds : goal.returns-in-Changes-clause-adds
returns-in-Changes-clause-adds c = rw c.in-Changes.is (rw c.as_slice-in-Changes.ensures at c.put_changes_part.ensures.adds)

pub returns-in-Changes-clause-len : goal.returns-in-Changes-clause-len
returns-in-Changes-clause-len c = rw c.in-Changes.is (on_ok_so c.put_changes_part.result (rw c.as_slice-in-Changes.ensures at c.put_changes_part.ensures.len) (λ len. omega (arith, len)))

pub returns-in-Changes-clause-full : goal.returns-in-Changes-clause-full
returns-in-Changes-clause-full c = rw c.in-Changes.is (on_err_so c.put_changes_part.result (rw c.as_slice-in-Changes.ensures at c.put_changes_part.ensures.full) (λ full. omega (arith, full)))

pub returns-in-Settings-clause-adds : goal.returns-in-Settings-clause-adds
returns-in-Settings-clause-adds c = rw c.in-Settings.is (rw c.as_slice-in-Settings.ensures at c.put_settings_part.ensures.adds)

pub returns-in-Settings-clause-len : goal.returns-in-Settings-clause-len
returns-in-Settings-clause-len c = rw c.in-Settings.is (on_ok_so c.put_settings_part.result (rw c.as_slice-in-Settings.ensures at c.put_settings_part.ensures.len) (λ len. omega (arith, len)))

pub returns-in-Settings-clause-full : goal.returns-in-Settings-clause-full
returns-in-Settings-clause-full c = rw c.in-Settings.is (on_err_so c.put_settings_part.result (rw c.as_slice-in-Settings.ensures at c.put_settings_part.ensures.full) (λ full. omega (arith, full)))
