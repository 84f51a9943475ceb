use Rattle.std.proofs.Common.{◌<◌, ◌≡◌, ℕ, List, Option, Some, length, get_or-set_other, get_or-set_same, ◌∙◌, ap}
use Rattle.ktm_store.specs.Frames.{at_in}
use Rattle.ktm_store.proofs.Owning.{alone}
use Rattle.ktm_store.proofs.owners.Owners.take.Goals as goal

pub returns-in-Some-clause-alone : goal.returns-in-Some-clause-alone
returns-in-Some-clause-alone c = rw (← c.self.view_is) (alone c.self.inside.at.items c.self.inside.owner.items c.self.inside.spare.items c.args.page c.in-Some.frame c.self.invariant.0 (rw (← c.self.view_is) at c.in-Some.ensures.is.0) c.in-Some.ensures.is.1)

pub returns-clause-alone : goal.returns-clause-alone
returns-clause-alone c =
    let low : c.args.page < length c.self.inside.at.items = rw (← c.self.view_is) at c.requires.below in
    let is : at_in c.give.new.at.items c.args.page ≡ Some c.give.result = ap (λ (l : List (Option ℕ)). at_in l c.args.page) c.give.ensures.at ∙ get_or-set_same c.self.inside.at.items c.args.page (Some c.give.result) _ low in
    rw (← c.self.view_is)
    (λ other apart same.
    alone c.give.new.at.items c.give.new.owner.items c.give.new.spare.items c.args.page c.give.result c.give.ensures.owned is c.give.ensures.own other apart
    (ap (λ (l : List (Option ℕ)). at_in l other) c.give.ensures.at ∙ get_or-set_other c.self.inside.at.items c.args.page other (Some c.give.result) _ apart ∙ same))

pub returns-clause-within : goal.returns-clause-within
returns-clause-within c =
    let low : c.args.page < length c.self.inside.at.items = rw (← c.self.view_is) at c.requires.below in
    let is : at_in c.give.new.at.items c.args.page ≡ Some c.give.result = ap (λ (l : List (Option ℕ)). at_in l c.args.page) c.give.ensures.at ∙ get_or-set_same c.self.inside.at.items c.args.page (Some c.give.result) _ low in
    c.give.ensures.owned.within c.args.page c.give.result is
