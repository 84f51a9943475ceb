use Rattle.ktm_dump.proofs.Paths.{path_none, path_some}
use Rattle.ktm_dump.proofs.Puts.{broken_as, broken_more, broken_then, put_as, put_none, put_then}
use Rattle.txf_tree.specs.Children.{node_seen}
use Rattle.txf_tree.specs.TreeState.{tree_of}
use Rattle.ktm_dump.proofs.line.+put_path.Goals as goal

pub returns-in_default : goal.returns-in_default
returns-in_default g t c = put_as _ _ _ _ (path_none (tree_of c.args.tree.now) c.args.most c.args.number c.in_default.ensures) (put_none _)

pub returns-in-Err : goal.returns-in-Err
returns-in-Err g t c =
    broken_as _ _ _ _ (path_some (tree_of c.args.tree.now) c.args.most c.args.number (node_seen c.in-Some.node) c.if-most-eq0.false c.in-Some.ensures)
    (broken_more _ _ _ _ (broken_more _ _ _ _ c.in-Err.ensures))

pub returns-in-Err-put : goal.returns-in-Err-put
returns-in-Err-put g t c =
    broken_as _ _ _ _ (path_some (tree_of c.args.tree.now) c.args.most c.args.number (node_seen c.in-Some.node) c.if-most-eq0.false c.in-Some.ensures)
    (broken_more _ _ _ _ (broken_then _ _ _ _ _ c.in_default-put_path.ensures c.in-Err-put.ensures))

pub returns-in-Err-put-2 : goal.returns-in-Err-put-2
returns-in-Err-put-2 g t c =
    broken_as _ _ _ _ (path_some (tree_of c.args.tree.now) c.args.most c.args.number (node_seen c.in-Some.node) c.if-most-eq0.false c.in-Some.ensures)
    (broken_then _ _ _ _ _ (put_then _ _ _ _ _ c.in_default-put_path.ensures c.in_default-put.ensures) c.in-Err-put-2.ensures)

pub returns : goal.returns
returns g t c =
    put_as _ _ _ _ (path_some (tree_of c.args.tree.now) c.args.most c.args.number (node_seen c.in-Some.node) c.if-most-eq0.false c.in-Some.ensures)
    (put_then _ _ _ _ _ (put_then _ _ _ _ _ c.in_default-put_path.ensures c.in_default-put.ensures) c.in_default-put-2.ensures)
