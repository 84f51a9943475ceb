use Rattle.std.proofs.Common.{◌≡◌, ◌∙◌, Bool, List, ap, arith, length}
use Rattle.std.specs.List.{position, position_or_len}
use Rattle.std.specs.Option.{unwrap_or}
use Rattle.std.proofs.lemmas.List.Sums.{prefix_len-le-length}
use Rattle.ktm_world.specs.Durable.{is_before}
use Rattle.ktm_world.specs.Enlistments.{Enlistment}
use Rattle.ktm_back.proofs.enlistments.place_of.Goals as goal

first-at : {X : Type 0} (p : X → Bool) (xs : List X) → unwrap_or (position p xs) (length xs) ≡ position_or_len p xs
first-at p xs = grind (arith, prefix_len-le-length)

pub returns-clause-place : goal.returns-clause-place
returns-clause-place c = c.unwrap_or.ensures ∙ ap (λ o. unwrap_or o (length c.args.enlistments.now)) c.first_behind.ensures ∙ first-at (λ (e : Enlistment). is_before c.args.id e.id) c.args.enlistments.now
