use Rattle.ktm_example.proofs.Installing.{in-one, none-made}
use Rattle.ktm_example.proofs.install.install.Goals as goal

pub returns-in_err-transaction : goal.returns-in_err-transaction
returns-in_err-transaction g c = λ w stands on.
    none-made c.args.release c.args.machine.now c.create_transaction.new.self _ _ c.from_residual.result _ c.create_transaction.ensures c.from_residual.ensures.1 w stands on

pub returns : goal.returns
returns g c = λ w stands on.
    in-one c.args.release c.args.machine.now c.create_transaction.new.self c.install_in-installed.new.machine c.close_transaction.new.self c.in_ok-transaction.transaction.label c.in_ok-transaction._guid _ c.install_in-installed.result
    c.in_ok-transaction.ensures c.install_in-installed.ensures c.close_transaction.ensures w stands on
