use Rattle.txf_volume.proofs.TransactedEnds.{IsReleased, files-left, tied-left}
use Rattle.txf_volume.proofs.files.Files.forget.Goals as goal

released : (c : goal.After-close_all) → IsReleased c.self.inside.reserve c.release.new.self c.args.transaction
released c = record {
  nodes = c.release.ensures.nodes;
  places = c.release.ensures.places;
  uses = c.release.ensures.uses;
  dropped = c.release.ensures.dropped;
  moves = c.release.ensures.moves;
}

pub invariant_of-self : goal.invariant_of-self
invariant_of-self c =
    tied-left _ c.self.inside.units c.self.inside.counts c.self.invariant c.args.transaction c.take.new.self c.release.new.self c.release-2.new.self c.close_all.new.opens c.take.ensures.left (released c) c.release-2.ensures.opens c.release-2.ensures.held c.close_all.ensures.opens c.close_all.ensures.last
    c.take.new.counts c.take.ensures.counted

pub returns : goal.returns
returns c = rw (← c.self.view_is)
    (files-left _ c.self.inside.units c.self.inside.counts c.self.invariant c.args.transaction c.take.new.self c.release.new.self c.release-2.new.self c.close_all.new.opens c.take.ensures.left (released c) c.release-2.ensures.opens c.release-2.ensures.held c.close_all.ensures.opens c.close_all.ensures.last)
