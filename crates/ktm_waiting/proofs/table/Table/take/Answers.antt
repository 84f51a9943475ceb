use Rattle.std.proofs.Common.{◌≡◌, ◌∙◌, Some, sym, ap, subst, not}
use Rattle.ktm_world.specs.Durable.{without_recorded}
use Rattle.ktm_world.specs.Transactions.{same_id}
use Rattle.txf_laws.proofs.offered.Elements.{each_pair-filter}
use Rattle.txf_laws.proofs.offered.Tables.{is_earlier}
use Rattle.ktm_waiting.specs.Table.{IsByRisingId}
use Rattle.ktm_waiting.proofs.Placing.{IsTaken, not-there, taken}
use Rattle.ktm_waiting.proofs.table.Table.take.Goals as goal

pub returns-in_default-clause-taken : goal.returns-in_default-clause-taken
returns-in_default-clause-taken c =
    let none = rw c.deref.ensures.value at c.in_default.ensures in
    rw (← c.self.view_is) (sym (not-there c.self.inside.items.items c.args.id none).0)

pub returns-in_default-clause-rest : goal.returns-in_default-clause-rest
returns-in_default-clause-rest c =
    let none = rw c.deref.ensures.value at c.in_default.ensures in
    rw (← c.self.view_is) (sym (not-there c.self.inside.items.items c.args.id none).1)

there : (c : goal.After-remove) → IsTaken c.self.inside.items.items c.args.id c.in-Some.index
there c = taken c.self.inside.items.items c.args.id c.in-Some.index c.self.invariant (rw c.deref.ensures.value at c.in-Some.ensures)

left : (c : goal.After-remove) → c.remove.new.self.items ≡ without_recorded c.self.inside.items.items c.args.id
left c = c.remove.ensures.items ∙ sym (there c).rest

pub invariant_of-self : goal.invariant_of-self
invariant_of-self c = subst IsByRisingId (sym (left c)) (each_pair-filter is_earlier (λ t. not (same_id t.id c.args.id)) c.self.inside.items.items c.self.invariant)

pub returns-clause-taken : goal.returns-clause-taken
returns-clause-taken c = rw (← c.self.view_is) (ap Some c.remove.ensures.value ∙ sym ((there c).taken c.remove.result))

pub returns-clause-rest : goal.returns-clause-rest
returns-clause-rest c = rw (← c.self.view_is) (left c)
