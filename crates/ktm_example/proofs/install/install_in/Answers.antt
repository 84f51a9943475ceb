use Rattle.std.proofs.Common.{Ok, Err}
use Rattle.ktm_example.proofs.Installing.{installed, nothing-yet, set-quiet}
use Rattle.ktm_example.proofs.install.install_in.Goals as goal

pub returns-in_err-replace : goal.returns-in_err-replace
returns-in_err-replace g c = λ before keeps. (
  c.args.transaction.now.label,
  c.args.transaction.now.label,
  nothing-yet before _ c.replace.new.machine c.from_residual.result _ c.from_residual.ensures.1 (c.replace.ensures.nothing _ keeps),
)

pub returns-in_err-replace-2 : goal.returns-in_err-replace-2
returns-in_err-replace-2 g c = λ before keeps. (
  c.args.transaction.now.label,
  c.args.transaction.now.label,
  nothing-yet before _ c.replace-2.new.machine c.from_residual-in_err-replace-2.result _ c.from_residual-in_err-replace-2.ensures.1 (c.replace-2.ensures.nothing _ (c.replace.ensures.nothing _ keeps)),
)

pub returns-in_err-set : goal.returns-in_err-set
returns-in_err-set g c = λ before keeps. (
  c.args.transaction.now.label,
  c.args.transaction.now.label,
  nothing-yet before _ c.set.new.self c.from_residual-in_err-set.result _ c.from_residual-in_err-set.ensures.1
      (set-quiet c.args.transaction.now.label c.args.release.version.name.characters c.args.release.version.contents c.replace-2.new.machine c.set.new.self _ c.set.ensures _ (c.replace-2.ensures.nothing _ (c.replace.ensures.nothing _ keeps))),
)

pub returns-in-Ok : goal.returns-in-Ok
returns-in-Ok g c = λ before keeps.
    installed before c.args.transaction.now.label c.args.release c.args.machine.now c.replace.new.machine c.replace-2.new.machine c.set.new.self c.commit.new.self (Ok c.in-Ok.state)
    c.in_ok-replace.ensures.done c.in_ok-replace-2.ensures.done c.in_ok-set.ensures c.in-Ok.ensures keeps

pub returns-in-Err : goal.returns-in-Err
returns-in-Err g c = λ before keeps.
    rw c.from.ensures (installed before c.args.transaction.now.label c.args.release c.args.machine.now c.replace.new.machine c.replace-2.new.machine c.set.new.self c.commit.new.self (Err c.in-Err.fault)
    c.in_ok-replace.ensures.done c.in_ok-replace-2.ensures.done c.in_ok-set.ensures c.in-Err.ensures keeps)
