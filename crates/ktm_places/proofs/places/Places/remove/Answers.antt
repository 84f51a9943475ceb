use Rattle.std.proofs.Common.{sym, ◌∙◌}
use Rattle.ktm_places.proofs.Buckets.{once_less}
use Rattle.ktm_places.proofs.places.Places.remove.Goals as goal

pub returns : goal.returns
returns c = λ ids place within is are. record {
  buckets = c.uncount.ensures.counted ids place within is are.buckets;
  once = λ once. once_less ids place c.args.transaction within (are.once (sym c.uncount.ensures.is_once ∙ once));
}
