use Rattle.std.proofs.Common.{◌≡◌, ◌+◌, ◌<◌, ◌++◌, ◌∷◌, [], length, take, sym, ap, ◌∙◌, arith, append_assoc}
use Rattle.std.proofs.lemmas.List.{drop-set-lt, map_more, take_more_set}
use Rattle.std.proofs.lemmas.Grind.{drop_more_same}
use Rattle.ktm_base.specs.Names.{folded, folded_byte}
use Rattle.txf_nodes.proofs.name.write_folded.Goals as goal

pub loop-index-preserved : goal.loop-index-preserved
loop-index-preserved c =
    let at = c.args.first + c.loop-index.index in
    let next : c.args.first + (c.loop-index.index + 1) ≡ at + 1 = omega arith in
    let within : at < length c.loop-index.room = omega arith in
    record {
      front =
          rw next
          (take_more_set c.loop-index.room at c.fold.result within
          ∙ ap (λ l. l ++ c.fold.result ∷ []) c.loop-index.invariant.front
          ∙ append_assoc (take c.args.first c.args.room.now) (folded (take c.loop-index.index c.args.name.now)) (c.fold.result ∷ [])
          ∙ ap (λ l. take c.args.first c.args.room.now ++ l)
          (ap (λ b. folded (take c.loop-index.index c.args.name.now) ++ b ∷ []) c.fold.ensures
          ∙ sym (map_more folded_byte c.args.name.now c.loop-index.index 0 c.loop-index-test.true)));
      rest =
          rw next
          (drop-set-lt (at + 1) c.loop-index.room at c.fold.result (omega arith)
          ∙ drop_more_same c.loop-index.room c.args.room.now at c.loop-index.invariant.rest);
    }
