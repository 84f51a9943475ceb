use Rattle.std.proofs.Common.{rules, ◌≡◌, ap, ◌∙◌}
use Rattle.std.specs.Cmp.Lexicographic.{other_text}
use Rattle.std.specs.Int.{w64, from_be_bytes}
use Rattle.ktm_base.specs.Guid.{guid_of}
use Rattle.ktm_base.proofs.offered.GuidLemmas.{id_read}
use Rattle.ktm_base.proofs.guids.id_of.Goals as goal

pub returns-else-eq-clause-every : goal.returns-else-eq-clause-every
returns-else-eq-clause-every c id is same =
    let number : c.in_ok-number.number ≡ c.from_be_bytes.result = search rules in
    let one = id_read c.args.kind c.args.image id c.args.guid.now c.as_fields-boot.result.0 c.in_ok-number.number is same
    c.as_fields-boot.ensures.d1 (number ∙ c.from_be_bytes.ensures ∙ ap (from_be_bytes w64) c.as_fields-boot.ensures.d4) in
    absurd (other_text c.guid.result c.args.guid.now c.if-eq.ensures (c.guid.ensures ∙ ap (guid_of c.args.kind c.args.image) one ∙ same))
