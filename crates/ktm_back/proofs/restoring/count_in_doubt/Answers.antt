use Rattle.std.proofs.Common.{◌≡◌, ◌∙◌, count_by, rules, sym}
use Rattle.std.proofs.lemmas.List.Sums.{length-filter}
use Rattle.ktm_world.specs.Durable.{Recorded, is_held}
use Rattle.ktm_back.proofs.restoring.count_in_doubt.Goals as goal

pub returns : goal.returns
returns c =
    let counted : c.count.result ≡ count_by (λ (t : Recorded). is_held t.stage) c.args.transactions.now = search rules in
    counted ∙ sym (length-filter (λ (t : Recorded). is_held t.stage) c.args.transactions.now)
