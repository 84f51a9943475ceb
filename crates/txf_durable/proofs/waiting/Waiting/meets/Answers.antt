use Rattle.std.proofs.Common.{◌||◌, sym, ◌∙◌, ap}
use Rattle.std.proofs.Math.Bool.{or-false}
use Rattle.std.proofs.lemmas.Bool.{or_right}
use Rattle.std.proofs.lemmas.Result.{IfOk-weaker}
use Rattle.std.specs.List.{list_all}
use Rattle.ktm_world.specs.Changes.{changes_bytes}
use Rattle.txf_tree.specs.TreeState.{tree_of}
use Rattle.txf_durable.specs.Waiting.{is_met}
use Rattle.txf_durable.proofs.Meeting.{met-split}
use Rattle.txf_durable.proofs.Recordings.{all-bytes}
use Rattle.txf_durable.proofs.Trying.{no-names, parts-apply}
use Rattle.txf_durable.proofs.waiting.Waiting.meets.Goals as goal

pub returns-then-meets_bytes-clause-met : goal.returns-then-meets_bytes-clause-met
returns-then-meets_bytes-clause-met c =
    let tree = tree_of c.args.files.now.tree in
    let names = c.split_at_bytes.result.0.now in
    let bytes = c.split_at_bytes.result.1.now in
    let split = c.split_at_bytes.ensures in
    let all = all-bytes c.args.changes.now names bytes split.whole split.names split.bytes c.requires.recorded in
    let parts = parts-apply tree c.args.changes.now names bytes split.whole c.requires.apply in
    sym (sym (met-split c.args.self.now c.args.who tree c.args.changes.now names bytes split.whole parts.1 all)
    ∙ or_right (is_met c.args.self.now c.args.who tree names) _ (sym c.meets_bytes.ensures ∙ c.if-meets_bytes.true))

pub meets_names-requires-clause-apply : goal.meets_names-requires-clause-apply
meets_names-requires-clause-apply c =
    rw c.tree.ensures
    (parts-apply (tree_of c.args.files.now.tree) c.args.changes.now c.split_at_bytes.result.0.now c.split_at_bytes.result.1.now c.split_at_bytes.ensures.whole c.requires.apply).0

pub returns-clause-met : goal.returns-clause-met
returns-clause-met c =
    let tree = tree_of c.args.files.now.tree in
    let names = c.split_at_bytes.result.0.now in
    let bytes = c.split_at_bytes.result.1.now in
    let split = c.split_at_bytes.ensures in
    let all = all-bytes c.args.changes.now names bytes split.whole split.names split.bytes c.requires.recorded in
    let parts = parts-apply tree c.args.changes.now names bytes split.whole c.requires.apply in
    let met = is_met c.args.self.now c.args.who tree names in
    IfOk-weaker c.meets_names.result _ _ (λ b is.
    is ∙ ap (λ t. is_met c.args.self.now c.args.who (tree_of t) names) c.tree.ensures ∙ sym (or-false met) ∙ ap (λ x. met || x) (sym c.if-meets_bytes.false ∙ c.meets_bytes.ensures)
    ∙ met-split c.args.self.now c.args.who tree c.args.changes.now names bytes split.whole parts.1 all) c.meets_names.ensures.met

pub returns-clause-enough : goal.returns-clause-enough
returns-clause-enough c all =
    let split = c.split_at_bytes.ensures in
    c.meets_names.ensures.enough (no-names c.split_at_bytes.result.0.now c.split_at_bytes.result.1.now split.names (ap (list_all changes_bytes) split.whole ∙ all))
