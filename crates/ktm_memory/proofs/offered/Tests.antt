-- Tests, one after another.
use Rattle.std.proofs.Common.{◌≡◌, cond, Bool, true, false, List, ◌∷◌, Some, ap}
use Rattle.ktm_base.specs.declared.refusal.Refusal.{Refusal}
use Rattle.ktm_world.specs.declared.reply.Reply.TheVariants.{Refused}
use Rattle.ktm_world.specs.Outcome.{Outcome, first_refusal, only_reply, refuse_or}
use Rattle.ktm_world.specs.Present.{Present}

-- a test that holds refuses
pub test_refuses : (x : Present) (b : Bool) (refusal : Refusal) (more : List (Bool × Refusal)) (o : Outcome) → b ≡ true → refuse_or x (first_refusal ((b, refusal) ∷ more)) o ≡ only_reply x (Refused refusal)
test_refuses x b refusal more o holds = ap (λ b. refuse_or x (cond b (Some refusal) (first_refusal more)) o) holds

-- one that does not leaves the others
pub test_passes : (x : Present) (b : Bool) (refusal : Refusal) (more : List (Bool × Refusal)) (o : Outcome) → b ≡ false → refuse_or x (first_refusal ((b, refusal) ∷ more)) o ≡ refuse_or x (first_refusal more) o
test_passes x b refusal more o fails = ap (λ b. refuse_or x (cond b (Some refusal) (first_refusal more)) o) fails
