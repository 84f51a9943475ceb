use Rattle.std.proofs.Common.{refl}
use Rattle.std.specs.Fmt.{digits}
use Rattle.uuid.specs.Text.{by_index}
use Rattle.ktm_script.proofs.laws.law_of_worked_lines.Goals as goal

pub returns-clause-machine : goal.returns-clause-machine
unfolding digits
returns-clause-machine c = refl

pub returns-clause-transactions : goal.returns-clause-transactions
unfolding digits by_index
returns-clause-transactions c = refl

pub returns-clause-enlistments : goal.returns-clause-enlistments
unfolding digits by_index
returns-clause-enlistments c = refl

pub returns-clause-files : goal.returns-clause-files
unfolding digits
returns-clause-files c = refl

pub returns-clause-keys : goal.returns-clause-keys
unfolding digits
returns-clause-keys c = refl
