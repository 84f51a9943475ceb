use Rattle.std.proofs.Common.{◌&&◌, not, refl, sym, ap, ◌∙◌}
use Rattle.std.specs.List.{list_any}
use Rattle.ktm_world.specs.Conflicts.{lets_read, lets_write, opened_in, reads, writes}
use Rattle.txf_opens.proofs.Sharing.{any_against, both_parts, first_part, no_part, second_part}
use Rattle.txf_opens.proofs.opens.Opens.is_used_against.Goals as goal
use Rattle.txf_opens.proofs.opens.Opens.is_used_against.Goals.{then-not-lets_read, else-not-lets_read}

pub returns-then-has_reader : goal.returns-then-has_reader
returns-then-has_reader c =
    let os = opened_in c.args.self.now.opens c.args.group c.args.node in
    first_part c.if-not-lets_read.value (not (lets_read c.args.share) && list_any (λ o. reads o.access) os) (not (lets_write c.args.share) && list_any (λ o. writes o.access) os) _
    (elim c.if-not-lets_read.branch [
      | then-not-lets_read w ↦
          both_parts (not (lets_read c.args.share)) (list_any (λ o. reads o.access) os) w.has_reader.result c.if-not-lets_read.value
          (ap not (sym c.lets_read.ensures ∙ w.if-not-lets_read.true)) w.value-is w.has_reader.ensures
      | else-not-lets_read w ↦
          no_part (not (lets_read c.args.share)) (list_any (λ o. reads o.access) os) c.if-not-lets_read.value
          (ap not (sym c.lets_read.ensures ∙ w.if-not-lets_read.false)) (w.value-is ∙ ap not c.lets_read.ensures)
    ])
    c.if-has_reader.true
    (any_against c.args.share os)

pub returns-then-not-lets_write : goal.returns-then-not-lets_write
returns-then-not-lets_write c =
    let os = opened_in c.args.self.now.opens c.args.group c.args.node in
    second_part c.if-not-lets_read.value (not (lets_read c.args.share) && list_any (λ o. reads o.access) os) (not (lets_write c.args.share) && list_any (λ o. writes o.access) os)
    c.has_writer_in.result _
    (elim c.if-not-lets_read.branch [
      | then-not-lets_read w ↦
          both_parts (not (lets_read c.args.share)) (list_any (λ o. reads o.access) os) w.has_reader.result c.if-not-lets_read.value
          (ap not (sym c.lets_read.ensures ∙ w.if-not-lets_read.true)) w.value-is w.has_reader.ensures
      | else-not-lets_read w ↦
          no_part (not (lets_read c.args.share)) (list_any (λ o. reads o.access) os) c.if-not-lets_read.value
          (ap not (sym c.lets_read.ensures ∙ w.if-not-lets_read.false)) (w.value-is ∙ ap not c.lets_read.ensures)
    ])
    c.if-has_reader.false
    (both_parts (not (lets_write c.args.share)) (list_any (λ o. writes o.access) os) c.has_writer_in.result c.has_writer_in.result
    (ap not (sym c.lets_write.ensures ∙ c.if-not-lets_write.true)) refl c.has_writer_in.ensures)
    (any_against c.args.share os)

pub returns-else-not-lets_write : goal.returns-else-not-lets_write
returns-else-not-lets_write c =
    let os = opened_in c.args.self.now.opens c.args.group c.args.node in
    second_part c.if-not-lets_read.value (not (lets_read c.args.share) && list_any (λ o. reads o.access) os) (not (lets_write c.args.share) && list_any (λ o. writes o.access) os)
    (not c.lets_write.result) _
    (elim c.if-not-lets_read.branch [
      | then-not-lets_read w ↦
          both_parts (not (lets_read c.args.share)) (list_any (λ o. reads o.access) os) w.has_reader.result c.if-not-lets_read.value
          (ap not (sym c.lets_read.ensures ∙ w.if-not-lets_read.true)) w.value-is w.has_reader.ensures
      | else-not-lets_read w ↦
          no_part (not (lets_read c.args.share)) (list_any (λ o. reads o.access) os) c.if-not-lets_read.value
          (ap not (sym c.lets_read.ensures ∙ w.if-not-lets_read.false)) (w.value-is ∙ ap not c.lets_read.ensures)
    ])
    c.if-has_reader.false
    (no_part (not (lets_write c.args.share)) (list_any (λ o. writes o.access) os) (not c.lets_write.result)
    (ap not (sym c.lets_write.ensures ∙ c.if-not-lets_write.false)) (ap not c.lets_write.ensures))
    (any_against c.args.share os)
