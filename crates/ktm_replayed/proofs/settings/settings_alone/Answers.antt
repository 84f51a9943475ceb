use Rattle.ktm_replayed.proofs.InPlace.{single-at}
use Rattle.ktm_replayed.proofs.settings.settings_alone.Goals as goal

pub returns : goal.returns
returns c =
    single-at c.args.bytes.now c.args.at c.in-Some-eq5-default.after c.in_ok-transaction.after c.in-Some-eq3-default.start c.in_ok-transaction.transaction
    (rw c.in-Some-eq5-default.field-0-0-test at c.in-Some-eq5-default.ensures) c.in_ok-transaction.ensures (rw c.in-Some-eq3-default.field-0-0-test at c.in-Some-eq3-default.ensures)
