use Rattle.std.proofs.Common.{length, arith}
use Rattle.ktm_log.proofs.Loading.{piece_within, read_on_then, refused_then}
use Rattle.ktm_log.proofs.load.load_pieces.Goals as goal

pub loop-area-preserved : goal.loop-area-preserved
loop-area-preserved g c =
    let before = c.loop-area.invariant in
    record {
      read = read_on_then _ _ _ _ before.read c.in_default.ensures.leaves;
      few = piece_within (length c.args.read.now.items) (length c.loop-area.read.items) _ c.args.upto (before.read.holds.whole (omega arith)) (omega arith) before.few c.load_piece.ensures.few;
    }

pub returns-in-Err-clause-leaves : goal.returns-in-Err-clause-leaves
returns-in-Err-clause-leaves g c = refused_then _ _ _ _ c.loop-area.invariant.read c.in-Err.ensures.leaves
