use Rattle.std.proofs.Common.{rules}
use Rattle.std.proofs.lemmas.Fn.{always_returns_same}
use Rattle.ktm_manager.proofs.offered.Places.{found, missing}
use Rattle.ktm_manager.specs.Rising.{id_order}
use Rattle.ktm_tm.proofs.Numbers.{id_of}
use Rattle.ktm_tm.proofs.place.place_among.Goals as goal

pub returns-in-Ok-clause-place : goal.returns-in-Ok-clause-place
returns-in-Ok-clause-place c = found id_of _ _ _ c.requires c.in-Ok.ensures.bound (c.in-Ok.ensures.position (λ t. id_order t.id c.args.id) (always_returns_same _ _ _ (λ a r f' called. search rules)))

pub returns-in-Err-clause-place : goal.returns-in-Err-clause-place
returns-in-Err-clause-place c = missing id_of _ _ _ c.requires c.in-Err.ensures.bound (c.in-Err.ensures.position (λ t. id_order t.id c.args.id) (always_returns_same _ _ _ (λ a r f' called. search rules)))
