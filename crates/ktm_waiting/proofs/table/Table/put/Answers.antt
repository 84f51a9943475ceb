use Rattle.std.proofs.Common.{◌≡◌, ◌∙◌, sym, ap, subst}
use Rattle.std.specs.List.{insert, position_or_len}
use Rattle.ktm_world.specs.Durable.{Recorded, is_before, with_recorded}
use Rattle.txf_laws.proofs.offered.Tables.{Rises-with_recorded}
use Rattle.ktm_waiting.specs.Table.{IsByRisingId, TableState}
use Rattle.ktm_waiting.proofs.Placing.{transaction-placed}
use Rattle.ktm_waiting.proofs.table.Table.put.Goals as goal

placed : (c : goal.After-unwrap) → c.insert.new.self.items ≡ with_recorded c.self.inside.items.items c.args.transaction
placed c =
    let ts = c.self.inside.items.items in
    let place = rw c.deref.ensures.value at c.place_of-place.ensures.place in
    (rw c.unwrap.ensures at c.insert.ensures.items) ∙ ap (λ n. insert ts n c.args.transaction) place
    ∙ ap (λ (t : Recorded). insert ts (position_or_len (λ (o : Recorded). is_before t.id o.id) ts) c.args.transaction) c.transaction.view_is
    ∙ sym (transaction-placed ts c.args.transaction (rw (← c.self.view_is) at c.requires.new))

pub invariant_of-self : goal.invariant_of-self
invariant_of-self c = subst IsByRisingId (sym (placed c)) (Rises-with_recorded c.self.inside.items.items c.args.transaction c.self.invariant)

pub returns : goal.returns
returns c = placed c ∙ ap (λ (t : TableState). with_recorded t.transactions c.args.transaction) c.self.view_is
