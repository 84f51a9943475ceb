use Rattle.std.proofs.Common.{◌∙◌, ap, length, take, drop}
use Rattle.std.specs.Option.{unwrap_or}
use Rattle.txf_durable.specs.Recorded.{are_names, begins_with_bytes}
use Rattle.txf_durable.proofs.Recordings.{bytes-first, names-first}
use Rattle.txf_durable.proofs.recorded.split_at_bytes.Goals as goal

pub returns-clause-names : goal.returns-clause-names
returns-clause-names c =
    let changes = c.args.changes.now in
    let count = c.unwrap_or-names.ensures ∙ ap (λ o. unwrap_or o (length changes)) c.first_bytes.ensures in
    ap are_names (c.split_at.ensures.front ∙ ap (λ n. take n changes) count) ∙ names-first changes

pub returns-clause-bytes : goal.returns-clause-bytes
returns-clause-bytes c =
    let changes = c.args.changes.now in
    let count = c.unwrap_or-names.ensures ∙ ap (λ o. unwrap_or o (length changes)) c.first_bytes.ensures in
    ap begins_with_bytes (c.split_at.ensures.back ∙ ap (λ n. drop n changes) count) ∙ bytes-first changes
