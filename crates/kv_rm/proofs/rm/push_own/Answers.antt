use Rattle.ktm_world.specs.Keys.{Own}
use Rattle.kv_rm.proofs.Restoring.{are_held-restored, few_restored}
use Rattle.kv_rm.proofs.rm.push_own.Goals as goal

pub add_all-requires-clause-few : goal.add_all-requires-clause-few
add_all-requires-clause-few c =
    let last : Own = record { transaction = c.args.transaction; settings = c.args.settings.items } in
    let settings = c.last_settings.ensures c.args.own.now last (rw c.from_vec.ensures at c.in_ok-push.ensures.ok) in
    rw settings (few_restored c.args.own.now c.args.transaction _ _ (c.reserve.ensures.held _ c.requires.held) c.requires.few)

pub returns-clause-held : goal.returns-clause-held
returns-clause-held c =
    let last : Own = record { transaction = c.args.transaction; settings = c.args.settings.items } in
    let pushed = rw c.from_vec.ensures at c.in_ok-push.ensures.ok in
    let settings = c.last_settings.ensures c.args.own.now last pushed in
    let more = rw settings at c.add_all.ensures in
    rw pushed (are_held-restored c.args.own.now _ _ _ _ (c.reserve.ensures.held _ c.requires.held) more)
