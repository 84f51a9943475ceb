use Rattle.std.proofs.Common.{◌≡◌, ◌∙◌, arith, sym, ap, take}
use Rattle.ktm_codec.proofs.GuidLemmas.{short_is_none, long_is_hyphenated, parse_is}
use Rattle.uuid.specs.Text.{parsed_hyphenated}
use Rattle.ktm_codec.proofs.guid.guid_of_front.Goals as goal

pub returns-in_err-get : goal.returns-in_err-get
returns-in_err-get c = c.from_residual.ensures ∙ sym (short_is_none c.args.text.now (omega (arith, c.in_err-get.ensures.lookup.0)))

pub returns : goal.returns
returns c =
    let front = c.in_ok-get.ensures.lookup.0 in
    let same : c.in_ok-get.field-0.now ≡ take 36 c.args.text.now = front.2 in
    c.ok.ensures.value ∙ parse_is c.try_parse_ascii.result c.in_ok-get.field-0.now c.try_parse_ascii.ensures.ok c.try_parse_ascii.ensures.bytes
    ∙ long_is_hyphenated c.in_ok-get.field-0.now (omega (arith, front.3)) ∙ ap parsed_hyphenated same
