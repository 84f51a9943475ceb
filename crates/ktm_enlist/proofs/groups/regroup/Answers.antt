use Rattle.std.proofs.Common.{◌∙◌, ap, set, sym}
use Rattle.ktm_manager.proofs.offered.Places.{changed_at, nothing_changed}
use Rattle.ktm_enlist.specs.Groups.{group_id, regrouped}
use Rattle.ktm_enlist.proofs.Grouping.{group_at, same_regrouped}
use Rattle.ktm_enlist.proofs.groups.regroup.Goals as goal

pub regrouped-requires : goal.regrouped-requires
regrouped-requires c = let at = group_at _ c.args.groups.now c.args.transaction c.in-Ok.at _ c.requires.may c.in-Ok.ensures.here in at.0 at.1

pub returns-in-Ok : goal.returns-in-Ok
returns-in-Ok c =
    ap (set c.args.groups.now c.in-Ok.at) c.regrouped.ensures
    ∙ sym (changed_at group_id (regrouped c.args.was c.args.is) c.args.groups.now c.args.transaction c.in-Ok.at _ c.in-Ok.ensures.here)

pub returns-in-Err : goal.returns-in-Err
returns-in-Err c = sym (nothing_changed group_id (regrouped c.args.was c.args.is) c.args.groups.now c.args.transaction c.in-Err.ensures.nowhere)

pub returns-then-eq : goal.returns-then-eq
returns-then-eq c = same_regrouped c.args.groups.now c.args.transaction c.args.was c.args.is c.requires.may c.if-eq.ensures
