use Rattle.txf_volume.proofs.Beginning.{tied}
use Rattle.txf_volume.proofs.files.Files.with_tree.Goals as goal

pub invariant_of-result : goal.invariant_of-result
invariant_of-result c =
    tied _ (record {
      overlays = c.new-2.ensures;
      opens = c.new.ensures.opens;
      nodes = c.new-4.ensures.nodes;
      places = c.new-4.ensures.places;
      uses = c.new-4.ensures.uses;
      dropped = c.new-4.ensures.dropped;
      moves = c.new-4.ensures.moves;
    }) c.args.units c.new-5.result c.requires.formed c.requires.units c.new-5.ensures
