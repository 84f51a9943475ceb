use Rattle.std.proofs.Common.{rules}
use Rattle.std.proofs.lemmas.Fn.{always_returns_same}
use Rattle.ktm_base.specs.declared.id.Id.{Id}
use Rattle.ktm_manager.proofs.offered.Places.{found, missing}
use Rattle.ktm_manager.specs.Rising.{id_order}
use Rattle.ktm_tm.proofs.place.place_in.Goals as goal

pub returns-in-Ok : goal.returns-in-Ok
returns-in-Ok c = found (λ (i : Id). i) _ _ _ c.requires c.in-Ok.ensures.bound (c.in-Ok.ensures.position (λ i. id_order i c.args.id) (always_returns_same _ _ _ (λ a r f' called. search rules)))

pub returns-in-Err : goal.returns-in-Err
returns-in-Err c = missing (λ (i : Id). i) _ _ _ c.requires c.in-Err.ensures.bound (c.in-Err.ensures.position (λ i. id_order i c.args.id) (always_returns_same _ _ _ (λ a r f' called. search rules)))
