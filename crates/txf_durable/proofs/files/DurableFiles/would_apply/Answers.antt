use Rattle.std.proofs.Common.{sym, ◌∙◌, ap}
use Rattle.std.specs.List.{list_all}
use Rattle.std.proofs.lemmas.Bool.{true≢false}
use Rattle.ktm_world.specs.Changes.{changes_bytes}
use Rattle.txf_durable.proofs.Recordings.{all-bytes}
use Rattle.txf_durable.proofs.Trying.{no-names}
use Rattle.txf_durable.proofs.files.DurableFiles.would_apply.Goals as goal

pub would_apply-requires-clause-bytes : goal.would_apply-requires-clause-bytes
would_apply-requires-clause-bytes c =
    let split = c.split_at_bytes.ensures in
    all-bytes c.args.changes.now c.split_at_bytes.result.0.now c.split_at_bytes.result.1.now split.whole split.names split.bytes c.requires

pub returns-in_err-apply-clause-enough : goal.returns-in_err-apply-clause-enough
returns-in_err-apply-clause-enough c all =
    let split = c.split_at_bytes.ensures in
    absurd (true≢false (sym (c.in_err-apply.ensures.enough (no-names c.split_at_bytes.result.0.now c.split_at_bytes.result.1.now split.names (ap (list_all changes_bytes) split.whole ∙ all)))))
