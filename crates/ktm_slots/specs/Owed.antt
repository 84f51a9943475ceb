-- How many notifications may still be sent to the enlistments that there are.
use Rattle.std.specs.Prelude.{ℕ, Bool, List, sum_by, Option, Some, None, if◌then◌else◌}
use Rattle.ktm_world.specs.declared.object.Phase.{Phase}
use Rattle.ktm_world.specs.declared.object.Phase.TheVariants.{Active, Requested, PrePreparing, PrePrepared, Preparing, SinglePhase, Held, InDoubt, Committing, Aborting, Ended}
use Rattle.ktm_world.specs.declared.object.Transaction.{Transaction}
use Rattle.ktm_world.specs.Enlistments.{Enlistment, is_superior}
use Rattle.ktm_world.specs.Present.{Present}
use Rattle.ktm_world.specs.Transactions.{transaction_at}

-- the most that an enlistment may still be sent, from when it is made
abbrev pub most_owed : ℕ
most_owed = 5

-- how many a superior may still be sent in this phase, by whether it is recovered: that a commit is asked for, that all have pre-prepared,
-- that all are prepared, that it rolls back, whoever asks for that, and that it has ended; and one by which it is asked to decide, where it is not recovered
abbrev pub superior_owed : Phase → Bool → ℕ
superior_owed Active recovered = 5
superior_owed Requested recovered = 4
superior_owed PrePreparing recovered = 4
superior_owed PrePrepared recovered = 3
superior_owed Preparing recovered = 3
superior_owed SinglePhase recovered = 3
superior_owed Held recovered = 2
superior_owed InDoubt recovered = if recovered then 2 else 3
superior_owed Committing recovered = 1
superior_owed Aborting recovered = 1
superior_owed Ended recovered = 0

-- how many an ordinary enlistment that is not read-only may still be sent in this phase, by whether it is recovered: to pre-prepare, to
-- commit in one phase, to prepare, and the outcome; and one that nothing is decided, where it is not recovered; one that has finished is recovered
abbrev pub part_owed : Phase → Bool → ℕ
part_owed Active recovered = 4
part_owed Requested recovered = 4
part_owed PrePreparing recovered = 3
part_owed PrePrepared recovered = 3
part_owed Preparing recovered = 1
part_owed SinglePhase recovered = 2
part_owed Held recovered = 1
part_owed InDoubt recovered = if recovered then 1 else 2
part_owed Committing recovered = if recovered then 0 else 1
part_owed Aborting recovered = if recovered then 0 else 1
part_owed Ended recovered = 0

-- how many an enlistment may still be sent in this phase of its transaction
abbrev pub still_to_send : Phase → Enlistment → ℕ
still_to_send phase e = if is_superior e then superior_owed phase e.is_recovered else (if e.is_read_only then 0 else part_owed phase e.is_recovered)

-- how many an enlistment of this transaction may still be sent, and none where there is no transaction
abbrev pub owed_by : Option Transaction → Enlistment → ℕ
owed_by None e = 0
owed_by (Some t) e = still_to_send t.phase e

-- how many may still be sent to enlistments, each of which is in one of these transactions
abbrev pub owed_in : List Transaction → List Enlistment → ℕ
owed_in ts es = sum_by (λ e. owed_by (transaction_at ts e.transaction) e) es

-- how many may still be sent to the enlistments that there are now
abbrev pub owed_slots : Present → ℕ
owed_slots x = owed_in x.transactions.items x.transactions.enlistments
