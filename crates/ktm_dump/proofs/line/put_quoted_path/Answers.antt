use Rattle.ktm_dump.proofs.Puts.{broken_as, broken_more, broken_then, put_as, put_then}
use Rattle.std.proofs.Common.{[], ◌∷◌, ap, length}
use Rattle.ktm_dump.specs.Text.{path_up}
use Rattle.txf_tree.specs.TreeState.{tree_of}
use Rattle.ktm_dump.proofs.line.put_quoted_path.Goals as goal

pub returns-in-Err : goal.returns-in-Err
returns-in-Err g c =
    broken_more _ _ _ (34 ∷ []) (broken_more _ _ _ (path_up (tree_of c.args.tree.now) (length (tree_of c.args.tree.now)) c.args.number) c.in-Err.ensures)

pub returns-in-Err-put_path : goal.returns-in-Err-put_path
returns-in-Err-put_path g c =
    broken_more _ _ _ (34 ∷ []) (broken_then _ _ _ _ _ c.in_default.ensures (broken_as _ _ _ (path_up (tree_of c.args.tree.now) (length (tree_of c.args.tree.now)) c.args.number) (ap (λ m. path_up (tree_of c.args.tree.now) m c.args.number) c.len.ensures) c.in-Err-put_path.ensures))

pub returns-in-Err-put : goal.returns-in-Err-put
returns-in-Err-put g c =
    broken_then _ _ _ _ _ (put_then _ _ _ _ _ c.in_default.ensures (put_as _ _ _ (path_up (tree_of c.args.tree.now) (length (tree_of c.args.tree.now)) c.args.number) (ap (λ m. path_up (tree_of c.args.tree.now) m c.args.number) c.len.ensures) c.in_default-put_path.ensures)) c.in-Err-put.ensures

pub returns : goal.returns
returns g c =
    put_then _ _ _ _ _ (put_then _ _ _ _ _ c.in_default.ensures (put_as _ _ _ (path_up (tree_of c.args.tree.now) (length (tree_of c.args.tree.now)) c.args.number) (ap (λ m. path_up (tree_of c.args.tree.now) m c.args.number) c.len.ensures) c.in_default-put_path.ensures)) c.in_default-put.ensures
