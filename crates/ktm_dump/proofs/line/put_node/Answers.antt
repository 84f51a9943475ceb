use Rattle.ktm_dump.proofs.Puts.{broken_as, broken_more, broken_then, put_as, put_then}
use Rattle.std.proofs.Common.{[], ◌∷◌}
use Rattle.ktm_codec.specs.Quoted.{quoted}
use Rattle.ktm_dump.specs.Text.{kind_word, path_of, size_word}
use Rattle.txf_tree.specs.Children.{node_seen}
use Rattle.txf_tree.specs.TreeState.{tree_of}
use Rattle.ktm_dump.proofs.line.put_node.Goals as goal

pub returns-in-Err : goal.returns-in-Err
returns-in-Err g c =
    broken_more _ _ _ (10 ∷ []) (broken_more _ _ _ (size_word (node_seen c.args.node).content) (broken_more _ _ _ (quoted (path_of (tree_of c.args.tree.now) (node_seen c.args.node))) (broken_as _ _ _ (kind_word (node_seen c.args.node).content) (c.kind_word.ensures) c.in-Err.ensures)))

pub returns-in-Err-put_quoted_path : goal.returns-in-Err-put_quoted_path
returns-in-Err-put_quoted_path g c =
    broken_more _ _ _ (10 ∷ []) (broken_more _ _ _ (size_word (node_seen c.args.node).content) (broken_then _ _ _ _ _ (put_as _ _ _ (kind_word (node_seen c.args.node).content) (c.kind_word.ensures) c.in_default.ensures) c.in-Err-put_quoted_path.ensures))

pub returns-in-Err-put_size : goal.returns-in-Err-put_size
returns-in-Err-put_size g c =
    broken_more _ _ _ (10 ∷ []) (broken_then _ _ _ _ _ (put_then _ _ _ _ _ (put_as _ _ _ (kind_word (node_seen c.args.node).content) (c.kind_word.ensures) c.in_default.ensures) c.in_default-put_quoted_path.ensures) c.in-Err-put_size.ensures)

pub returns-in-Err-put : goal.returns-in-Err-put
returns-in-Err-put g c =
    broken_then _ _ _ _ _ (put_then _ _ _ _ _ (put_then _ _ _ _ _ (put_as _ _ _ (kind_word (node_seen c.args.node).content) (c.kind_word.ensures) c.in_default.ensures) c.in_default-put_quoted_path.ensures) c.in_default-put_size.ensures) c.in-Err-put.ensures

pub returns : goal.returns
returns g c =
    put_then _ _ _ _ _ (put_then _ _ _ _ _ (put_then _ _ _ _ _ (put_as _ _ _ (kind_word (node_seen c.args.node).content) (c.kind_word.ensures) c.in_default.ensures) c.in_default-put_quoted_path.ensures) c.in_default-put_size.ensures) c.in_default-put.ensures
