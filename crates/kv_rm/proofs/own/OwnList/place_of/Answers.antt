use Rattle.std.proofs.Common.{◌∙◌, ap, position}
use Rattle.ktm_world.specs.Transactions.{same_id}
use Rattle.kv_rm.proofs.Places.{place_at}
use Rattle.kv_rm.proofs.own.OwnList.place_of.Goals as goal

pub returns : goal.returns
returns c =
    let found = c.place_of.ensures ∙ ap (position (λ o. same_id o.transaction c.args.transaction)) c.deref.ensures.value in
    rw (← c.self.view_is, found) (place_at c.args.transaction c.self.inside.entries.items)
