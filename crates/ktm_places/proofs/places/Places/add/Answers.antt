use Rattle.std.proofs.Common.{sym, ◌∙◌}
use Rattle.ktm_places.proofs.Buckets.{none_its, once_more}
use Rattle.ktm_places.proofs.places.Places.add.Goals as goal
use Rattle.ktm_places.proofs.places.Places.add.Goals.{then-had, else-had}

pub returns : goal.returns
returns c = λ ids few none are. elim c.if-had.branch [
  | then-had w ↦ record {
    buckets = (rw w.self-is at c.count.ensures.counted) ids few are.buckets;
    once = λ once. let kept = rw w.self-is at c.count.ensures.is_once in cc;
  }
  | else-had w ↦ record {
    buckets = (rw w.self-is at c.count.ensures.counted) ids few are.buckets;
    once = λ once.
        let kept = rw w.self-is at c.count.ensures.is_once in
        once_more c.args.transaction ids (are.once (sym kept ∙ once)) (none_its c.args.transaction ids (none w.if-had.false));
  }
]
