use Rattle.std.proofs.Common.{◌∙◌, sym, ap}
use Rattle.std.specs.List.{insert}
use Rattle.ktm_waiting.proofs.Placing.{manager-placed}
use Rattle.ktm_waiting.proofs.managers.Managers.add.Goals as goal

pub returns-clause-ok : goal.returns-clause-ok
returns-clause-ok c =
    let ids = c.self.inside.items.items in
    let place = rw c.deref.ensures.value at c.place_of-place.ensures.place in
    rw (← c.self.view_is) (c.in_ok-insert.ensures.items ∙ ap (λ n. insert ids n c.args.manager) place ∙ sym (manager-placed ids c.args.manager))
