use Rattle.ktm_dump.proofs.Puts.{broken_as, broken_more, broken_then, put_as, put_then}
use Rattle.std.proofs.Common.{List, ap₂, flat_map}
use Rattle.ktm_base.specs.declared.id.Id.{Id}
use Rattle.ktm_dump.specs.Text.{manager_line, transaction_lines}
use Rattle.ktm_world.specs.Durable.{Recorded}
use Rattle.ktm_dump.proofs.state.put_front.Goals as goal

pub returns-in-Err : goal.returns-in-Err
returns-in-Err g c =
    broken_more _ _ _ (flat_map (transaction_lines c.args.state.now.image) c.args.state.now.transactions) (broken_more _ _ _ (flat_map (manager_line c.args.state.now.image) c.args.state.now.managers) c.in-Err.ensures)

pub returns-in-Err-put_managers : goal.returns-in-Err-put_managers
returns-in-Err-put_managers g c =
    broken_more _ _ _ (flat_map (transaction_lines c.args.state.now.image) c.args.state.now.transactions) (broken_then _ _ _ _ _ c.in_default.ensures (broken_as _ _ _ (flat_map (manager_line c.args.state.now.image) c.args.state.now.managers) (ap₂ (λ n (ms : List Id). flat_map (manager_line n) ms) c.image.ensures c.managers.ensures) c.in-Err-put_managers.ensures))

pub returns-in-Err-put_transactions : goal.returns-in-Err-put_transactions
returns-in-Err-put_transactions g c =
    broken_then _ _ _ _ _ (put_then _ _ _ _ _ c.in_default.ensures (put_as _ _ _ (flat_map (manager_line c.args.state.now.image) c.args.state.now.managers) (ap₂ (λ n (ms : List Id). flat_map (manager_line n) ms) c.image.ensures c.managers.ensures) c.in_default-put_managers.ensures)) (broken_as _ _ _ (flat_map (transaction_lines c.args.state.now.image) c.args.state.now.transactions) (ap₂ (λ n (ts : List Recorded). flat_map (transaction_lines n) ts) c.image-2.ensures c.transactions.ensures) c.in-Err-put_transactions.ensures)

pub returns : goal.returns
returns g c =
    put_then _ _ _ _ _ (put_then _ _ _ _ _ c.in_default.ensures (put_as _ _ _ (flat_map (manager_line c.args.state.now.image) c.args.state.now.managers) (ap₂ (λ n (ms : List Id). flat_map (manager_line n) ms) c.image.ensures c.managers.ensures) c.in_default-put_managers.ensures)) (put_as _ _ _ (flat_map (transaction_lines c.args.state.now.image) c.args.state.now.transactions) (ap₂ (λ n (ts : List Recorded). flat_map (transaction_lines n) ts) c.image-2.ensures c.transactions.ensures) c.in_default-put_transactions.ensures)
