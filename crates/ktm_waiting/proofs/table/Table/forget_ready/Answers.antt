use Rattle.std.proofs.Common.{◌≡◌, rules, sym, subst, not}
use Rattle.std.specs.Prelude.{filter}
use Rattle.std.proofs.lemmas.Fn.{filter_same}
use Rattle.ktm_world.specs.Durable.{is_ready}
use Rattle.txf_laws.proofs.offered.Elements.{each_pair-filter}
use Rattle.txf_laws.proofs.offered.Tables.{is_earlier}
use Rattle.ktm_waiting.specs.Table.{IsByRisingId}
use Rattle.ktm_waiting.proofs.table.Table.forget_ready.Goals as goal

left : (c : goal.After-retain) → c.retain.new.self.items ≡ filter (λ t. not (is_ready t.stage)) c.self.inside.items.items
left c = filter_same _ _ _ (λ t b f' k. search rules) _ _ c.retain.ensures.filtered

pub invariant_of-self : goal.invariant_of-self
invariant_of-self c = subst IsByRisingId (sym (left c)) (each_pair-filter is_earlier (λ t. not (is_ready t.stage)) c.self.inside.items.items c.self.invariant)

pub returns : goal.returns
returns c = rw (← c.self.view_is) (left c)
