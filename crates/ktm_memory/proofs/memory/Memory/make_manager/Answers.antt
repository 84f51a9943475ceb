use Rattle.std.proofs.Common.{◌≡◌, ◌+◌, ◌∙◌, ◌++◌, ◌∷◌, [], Bool, ap, subst, sym, arith}
use Rattle.ktm_base.specs.declared.id.Id.{Id}
use Rattle.ktm_memory.specs.Memory.{Shows}
use Rattle.ktm_memory.specs.contracts.memory.Memory.{the_view}
use Rattle.ktm_memory.proofs.Making.{manager_shows}
use Rattle.ktm_world.specs.declared.object.Object.TheVariants.{Manager as ManagerObject}
use Rattle.ktm_world.specs.Enlistments.{Manager}
use Rattle.ktm_world.specs.Labels.{with_handle}
use Rattle.ktm_memory.proofs.memory.Memory.make_manager.Goals as goal

pub returns-clause-settles : goal.returns-clause-settles
returns-clause-settles c =
    let m = the_view c.self.inside in
    let slots : c.args.self.now.tm.slots ≡ c.create_manager-id.new.self.slots = sym (ap (λ k. k.tm.slots) c.self.view_is) ∙ sym c.create_manager-id.ensures.slots in
    record {
      shows = λ x shows all. manager_shows m x c.args.process c.args.label c.args.durability c.create_manager-id.new.self c.insert.new.self (subst (λ k. Shows k x) (sym c.self.view_is) shows) c.create_manager-id.ensures.boot c.create_manager-id.ensures.now
          (c.create_manager-id.ensures.managers
          ∙ ap (λ (id : Id). m.tm.managers ++ (let made : Manager = record { id = id; is_durable = c.is_durable.result; queue = [] } in made) ∷ []) c.create_manager-id.ensures.id
          ∙ ap (λ (b : Bool). m.tm.managers ++ (let made : Manager = record { id = record { boot = m.tm.boot; number = m.tm.now.last_manager + 1 }; is_durable = b; queue = [] } in made) ∷ []) c.is_durable.ensures)
          (c.insert.ensures.handles ∙ ap (λ (id : Id). with_handle m.handles.handles c.args.process c.args.label (ManagerObject id)) c.create_manager-id.ensures.id);
      slots = λ x shows. omega (arith, slots);
    }
