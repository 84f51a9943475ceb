use Rattle.std.proofs.Common.{◌≡◌, ◌∷◌, ℕ, List, [], Option, arith, subst, sym}
use Rattle.ktm_store.proofs.offered.HoldingContents.{holds-empty}
use Rattle.ktm_store.specs.Holding.{HoldsContents}
use Rattle.ktm_world.specs.Tree.{bytes_or_none, units_of}
use Rattle.txf_volume.proofs.pages.hold_node.Goals as goal

pub returns-in-None : goal.returns-in-None
returns-in-None c =
    let none : 0 ≡ units_of [] = omega arith in
    subst (λ (o : Option (List ℕ)). HoldsContents (bytes_or_none o ∷ []) (units_of (bytes_or_none o)) c.args.store.now c.args.store.now) (sym c.in-None.is)
    (subst (λ (n : ℕ). HoldsContents ([] ∷ []) n c.args.store.now c.args.store.now) none (holds-empty c.args.store.now))
