use Rattle.std.proofs.Common.{◌≡◌, ◌∙◌, ap, subst, sym, arith}
use Rattle.ktm_base.specs.declared.id.Id.{Id}
use Rattle.ktm_memory.specs.Memory.{Shows}
use Rattle.ktm_memory.specs.contracts.memory.Memory.{the_view}
use Rattle.ktm_memory.proofs.Making.{begun_shows}
use Rattle.ktm_world.specs.declared.object.Object.TheVariants.{Transaction as TransactionObject}
use Rattle.ktm_world.specs.Labels.{with_handle}
use Rattle.ktm_memory.proofs.memory.Memory.begin.Goals as goal

pub returns-clause-settles : goal.returns-clause-settles
returns-clause-settles c =
    let m = the_view c.self.inside in
    let slots : c.args.self.now.tm.slots ≡ c.create-id.new.self.slots = sym (ap (λ k. k.tm.slots) c.self.view_is) ∙ sym c.create-id.ensures.rest.slots in
    record {
      shows = λ x shows all. begun_shows m x c.args.process c.args.label c.args.timeout c.create-id.new.self c.insert.new.self (subst (λ k. Shows k x) (sym c.self.view_is) shows) c.create-id.ensures.boot c.create-id.ensures.now c.create-id.ensures.rest.managers
          (c.insert.ensures.handles ∙ ap (λ (id : Id). with_handle m.handles.handles c.args.process c.args.label (TransactionObject id)) c.create-id.ensures.id);
      slots = λ x shows. omega (arith, slots);
    }
