use Rattle.ktm_example.proofs.Installing.{done, opened, replaced}
use Rattle.ktm_example.proofs.install.replace.Goals as goal

pub returns-in_err-open-clause-nothing : goal.returns-in_err-open-clause-nothing
returns-in_err-open-clause-nothing g c = opened c.args.file c.args.transaction.now.label c.args.machine.now c.create_file_transacted.new.self _ _ c.create_file_transacted.ensures

pub returns-in_err-close_file-clause-nothing : goal.returns-in_err-close_file-clause-nothing
returns-in_err-close_file-clause-nothing g c =
    replaced c.args.file c.args.transaction.now.label c.args.machine.now c.create_file_transacted.new.self c.write-written.new.self c.close_file.new.self c.in_ok-open.open.label c.in_ok-open.ensures _ _ c.write-written.ensures c.close_file.ensures

pub returns-clause-nothing : goal.returns-clause-nothing
returns-clause-nothing g c =
    replaced c.args.file c.args.transaction.now.label c.args.machine.now c.create_file_transacted.new.self c.write-written.new.self c.close_file.new.self c.in_ok-open.open.label c.in_ok-open.ensures _ _ c.write-written.ensures c.close_file.ensures

pub returns-clause-done : goal.returns-clause-done
returns-clause-done g c =
    done c.args.file c.args.transaction.now.label c.args.machine.now c.create_file_transacted.new.self c.write-written.new.self c.close_file.new.self c.in_ok-open.open.label c.in_ok-open.ensures c.write-written.result c.write-written.ensures c.in_ok-close_file.ensures
