use Rattle.std.proofs.Common.{◌∙◌, ap, refl, set, subst, sym}
use Rattle.std.proofs.lemmas.List.{get_or_default}
use Rattle.ktm_base.specs.declared.id.Id.{Id}
use Rattle.ktm_manager.proofs.offered.Places.{changed_at}
use Rattle.ktm_manager.specs.Rising.{IsAt}
use Rattle.ktm_world.specs.Enlistments.{Enlistment}
use Rattle.ktm_enlist.specs.declared.group.Group.{Group}
use Rattle.ktm_enlist.specs.Groups.{group_id, joined, MayRegroup}
use Rattle.ktm_enlist.specs.Standing.{nothing, standing_of}
use Rattle.ktm_enlist.proofs.Grouping.{group_at}
use Rattle.ktm_enlist.proofs.groups.join.Goals as goal

pub joined-requires : goal.joined-requires
joined-requires c =
    let here = subst (λ (id : Id). IsAt group_id c.args.groups.now.items id c.in-Ok.at) (ap (λ (e : Enlistment). e.transaction) c.e.view_is) (rw c.deref.ensures.value at c.in-Ok.ensures.here) in
    let at = group_at _ c.args.groups.now.items c.args.e.now.transaction c.in-Ok.at c.index-group.result.now c.requires.may here in
    subst (λ (g : Group). MayRegroup g nothing (standing_of c.args.e.now)) (sym c.index-group.ensures) (at.0 at.1)

pub returns-in-Ok-clause-groups : goal.returns-in-Ok-clause-groups
returns-in-Ok-clause-groups c =
    let gs = c.args.groups.now.items in
    let here = subst (λ (id : Id). IsAt group_id c.args.groups.now.items id c.in-Ok.at) (ap (λ (e : Enlistment). e.transaction) c.e.view_is) (rw c.deref.ensures.value at c.in-Ok.ensures.here) in
    record {
      group = c.index-group.result.now;
      before = record {
        place = c.in-Ok.at;
        here = here;
        is = λ d. c.index-group.ensures ∙ get_or_default gs c.in-Ok.at _ d (rw c.deref.ensures.value at c.in-Ok.ensures.within);
      };
      is =
          ap (set gs c.in-Ok.at) (c.joined.ensures ∙ ap (joined c.args.e.now c.args.place) c.index-group.ensures)
          ∙ sym (changed_at group_id (joined c.args.e.now c.args.place) gs c.args.e.now.transaction c.in-Ok.at c.index-group.result.now here);
      was = refl;
    }
