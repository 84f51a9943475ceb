use Rattle.std.proofs.Common.{rules, sym, ap, ◌∙◌}
use Rattle.std.specs.Int.{w64, to_be_bytes}
use Rattle.ktm_base.specs.Guid.{kind_number}
use Rattle.ktm_base.proofs.offered.GuidLemmas.{from_fields}
use Rattle.ktm_base.proofs.guids.guid.Goals as goal

pub returns : goal.returns
returns c =
    sym
    (from_fields c.from_fields.result c.args.id.boot (kind_number c.args.kind) c.args.image c.args.id.number (search rules) (λ i. search rules)
    (sym c.from_fields.ensures.d1) (sym (c.from_fields.ensures.d2 ∙ c.kind_field.ensures)) (sym c.from_fields.ensures.d3)
    (sym (c.from_fields.ensures.d4 ∙ c.to_be_bytes.ensures ∙ ap (to_be_bytes w64) c.from-number.ensures)))
