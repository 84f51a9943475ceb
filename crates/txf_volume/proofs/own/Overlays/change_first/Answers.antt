use Rattle.std.proofs.Common.{◌≡◌, ◌-◌, ◌^◌, ◌<◌, ◌++◌, ◌∷◌, [], List, None, true, length, sym, ◌∙◌, ap, subst, arith}
use Rattle.std.proofs.lemmas.Grind.{common_steps}
use Rattle.ktm_world.specs.declared.change.Change.{Change}
use Rattle.ktm_world.specs.Changes.{applies, changed_all}
use Rattle.txf_volume.specs.Held.{OwnHeld, overlay_in}
use Rattle.txf_tree.specs.TreeState.{tree_of}
use Rattle.txf_volume.specs.OwnParts.{owners, unchanged}
use Rattle.txf_volume.proofs.OwnPlaces.{counted-pushed}
use Rattle.txf_volume.proofs.TransactedParts.{changed-first, counted-first, few-new, stands-new, units-from}
use Rattle.txf_volume.proofs.own.Overlays.change_first.Goals as goal
use Rattle.txf_volume.proofs.own.Overlays.change_first.Goals.{After-push_reserved}

pub make_room_and_change-requires-clause-stands : goal.make_room_and_change-requires-clause-stands
make_room_and_change-requires-clause-stands c =
    stands-new (tree_of c.args.tree.now) c.new-overlay.result c.new-overlay.ensures.names c.new-overlay.ensures.held c.requires.formed

pub make_room_and_change-requires-clause-applies : goal.make_room_and_change-requires-clause-applies
make_room_and_change-requires-clause-applies c =
    subst (λ (names : List Change). applies (changed_all (tree_of c.args.tree.now) names) c.args.change ≡ true) (sym c.new-overlay.ensures.names) c.requires.applies

pub make_room_and_change-requires-clause-few : goal.make_room_and_change-requires-clause-few
make_room_and_change-requires-clause-few c =
    few-new c.new-overlay.result c.args.fixed c.args.change c.new-overlay.ensures.names c.new-overlay.ensures.written c.requires.few

pub make_room_and_change-requires-clause-units : goal.make_room_and_change-requires-clause-units
make_room_and_change-requires-clause-units c =
    units-from c.new-overlay.result unchanged c.args.fixed c.args.change c.new-overlay.ensures.names c.new-overlay.ensures.written c.requires.units

-- the entry stands at the end
pushed : (c : After-push_reserved) → ◌≡◌ {A = List OwnHeld} c.push_reserved.new.self.items (c.args.self.now ++ record { transaction = c.args.transaction; overlay = c.make_room_and_change.new.overlay } ∷ [])
pushed c = c.push_reserved.ensures.items ∙ ap (λ (os : List OwnHeld). os ++ record { transaction = c.args.transaction; overlay = c.make_room_and_change.new.overlay } ∷ []) (c.reserve.ensures.items ∙ c.self.view_is)

pub returns-in-Ok-clause-ok : goal.returns-in-Ok-clause-ok
returns-in-Ok-clause-ok c =
    changed-first (tree_of c.args.tree.now) c.args.fixed c.args.transaction c.args.change c.args.self.now _ c.new-overlay.result c.make_room_and_change.new.overlay c.args.reserve.now c.make_room_and_change.new.reserve c.requires.first
    (pushed (goal.at.returns-in-Ok-clause-ok c).After-push_reserved) c.new-overlay.ensures.names c.new-overlay.ensures.written c.in-Ok.ensures.ok

pub returns-in-Ok-clause-counted : goal.returns-in-Ok-clause-counted
returns-in-Ok-clause-counted c =
    counted-first c.args.self.now _ c.args.transaction c.new-overlay.result c.make_room_and_change.new.overlay c.in-Ok.counted c.requires.first
    (pushed (goal.at.returns-in-Ok-clause-counted c).After-push_reserved) c.new-overlay.ensures.names c.new-overlay.ensures.written c.in-Ok.ensures.before c.in-Ok.ensures.after

pub invariant_of-self-in-Ok : goal.invariant_of-self-in-Ok
invariant_of-self-in-Ok c =
    let os = c.self.inside.entries.items in
    let own : OwnHeld = record { transaction = c.args.transaction; overlay = c.make_room_and_change.new.overlay } in
    let few : length os < 2 ^ 64 - 1 = grind (arith, common_steps) in
    counted-pushed os c.push_reserved.new.self.items own c.reserve-2.new.self c.add.new.self
    (c.push_reserved.ensures.items ∙ ap (λ (os : List OwnHeld). os ++ own ∷ []) c.reserve.ensures.items)
    (subst (λ (os : List OwnHeld). overlay_in os c.args.transaction ≡ None) (sym c.self.view_is) c.requires.first) (c.reserve-2.ensures.counted (owners os) c.self.invariant) few c.add.ensures
