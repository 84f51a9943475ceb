use Rattle.std.proofs.Common.{◌≡◌, ◌<◌, ◌^◌, ◌∷◌, [], ◌++◌, length, None, ℕ, List, arith, length-append, ap, ◌∙◌}
use Rattle.ktm_store.proofs.Owning.{owned-add}
use Rattle.ktm_store.proofs.owners.Owners.add.Goals as goal

pub invariant_of-self-2 : goal.invariant_of-self-2
invariant_of-self-2 c =
    let owner = c.self.inside.owner.items in
    let pushed : c.push.new.self.items ≡ owner ++ None ∷ [] = c.in_ok-push.ensures.items in
    let long : c.len.result ≡ length owner = c.len.ensures ∙ c.self.inside.owner.ok.0 in
    let frame : c.in-Ok.frame ≡ length owner = c.in-Ok.ensures.1 ∙ long in
    let few : length owner < 2 ^ 32 = omega (arith, long, c.in-Ok.ensures.0) in
    let spare : c.push_reserved.new.self.items ≡ c.self.inside.spare.items ++ length owner ∷ [] = c.push_reserved.ensures.items ∙ ap (λ (n : ℕ). c.reserve.new.self.items ++ n ∷ []) frame ∙ ap (λ (l : List ℕ). l ++ length owner ∷ []) c.reserve.ensures.items in
    rw (pushed, spare) (owned-add c.self.inside.at.items owner c.self.inside.spare.items c.self.invariant.0 few, omega (arith, length-append owner (None ∷ []), c.self.invariant.1))
