use Rattle.std.proofs.Common.{◌<◌, ◌-◌, ◌^◌, ◌∷◌, [], length, ◌∙◌, arith}
use Rattle.std.proofs.lemmas.Grind.{common_steps}
use Rattle.std.proofs.lemmas.List.{map-append}
use Rattle.ktm_world.specs.Keys.{Own}
use Rattle.kv_rm.proofs.Places.{owners, owners-any}
use Rattle.kv_rm.proofs.own.OwnList.push.Goals as goal

pub invariant_of-self-2 : goal.invariant_of-self-2
invariant_of-self-2 c =
    let own = c.self.inside.entries.items in
    let last : Own = record { transaction = c.args.transaction; settings = c.args.settings } in
    let first = rw (← c.self.view_is) at c.requires in
    let few : length (owners own) < 2 ^ 64 - 1 = grind (arith, common_steps) in
    rw (c.in_ok-push.ensures.items, map-append (λ (o : Own). o.transaction) own (last ∷ []))
    (c.add.ensures (owners own) few (λ none. owners-any own c.args.transaction ∙ first none) (c.reserve.ensures.counted (owners own) c.self.invariant))
