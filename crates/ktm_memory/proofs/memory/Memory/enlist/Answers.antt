use Rattle.std.proofs.Common.{◌≡◌, ◌∙◌, List, is_some, true, ap, subst, sym, arith}
use Rattle.ktm_base.specs.declared.id.Id.{Id}
use Rattle.ktm_courses.proofs.offered.Calls.{transaction_at-found}
use Rattle.ktm_memory.specs.Memory.{Shows}
use Rattle.ktm_memory.specs.contracts.memory.Memory.{the_view}
use Rattle.ktm_memory.proofs.Making.{enlisted_shows}
use Rattle.ktm_world.specs.declared.object.Object.TheVariants.{Enlistment as EnlistmentObject}
use Rattle.ktm_world.specs.Enlistments.{Manager, manager_at}
use Rattle.ktm_world.specs.Labels.{with_handle}
use Rattle.ktm_world.specs.Present.{Transactions}
use Rattle.ktm_world.specs.Transactions.{same_id, transaction_at}
use Rattle.txf_laws.proofs.offered.Elements.{find-in}
use Rattle.txf_laws.proofs.offered.Tables.{same_id-equal}
use Rattle.ktm_memory.proofs.memory.Memory.enlist.Goals as goal

pub returns-clause-settles : goal.returns-clause-settles
returns-clause-settles c =
    let m = the_view c.self.inside in
    let slots : c.args.self.now.tm.slots ≡ c.create_enlistment-id.new.self.slots = sym (ap (λ k. k.tm.slots) c.self.view_is) ∙ sym c.create_enlistment-id.ensures.others.slots in
    record {
      shows = λ x shows all. enlisted_shows m x c.args.process c.args.label c.args.manager c.args.transaction c.args.kind (manager_at x.managers c.args.manager) (transaction_at x.transactions.items c.args.transaction)
          c.create_enlistment-id.new.self c.insert.new.self (subst (λ k. Shows k x) (sym c.self.view_is) shows)
          (subst (λ (ms : List Manager). is_some (manager_at ms c.args.manager) ≡ true) shows.managers c.requires.may.4)
          (subst (λ (ts : Transactions). is_some (transaction_at ts.items c.args.transaction) ≡ true) shows.transactions c.requires.may.5)
          (λ u is. same_id-equal u.id c.args.manager (find-in (λ (v : Manager). same_id v.id c.args.manager) x.managers u is).1)
          (λ u is. (transaction_at-found x.transactions.items c.args.transaction u is).1)
          c.create_enlistment-id.ensures.others.boot c.create_enlistment-id.ensures.now c.create_enlistment-id.ensures.others.managers
          (c.insert.ensures.handles ∙ ap (λ (id : Id). with_handle m.handles.handles c.args.process c.args.label (EnlistmentObject id)) c.create_enlistment-id.ensures.id);
      slots = λ x shows. omega (arith, slots);
    }
