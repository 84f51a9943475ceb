use Rattle.std.proofs.Common.{◌∙◌, sym}
use Rattle.ktm_reply.proofs.TextsLemmas.{one_more, ended, stuck, shorter}
use Rattle.ktm_reply.proofs.texts.read_texts.Goals as goal

pub texts-smaller : goal.texts-smaller
texts-smaller c = shorter c.texts.rest.now c.in-Some.text.now c.in-Some.after.now (sym c.in-Some.ensures)

pub texts-preserved : goal.texts-preserved
texts-preserved c =
    rw c.in_ok-push.ensures.ok (one_more c.texts.texts c.texts.rest.now c.in-Some.text.now c.in-Some.after.now (sym c.in-Some.ensures) ∙ c.texts.invariant)

pub returns-then-is_empty : goal.returns-then-is_empty
returns-then-is_empty c =
    sym (ended c.texts.texts c.texts.rest.now c.if-is_empty.ensures) ∙ c.texts.invariant

pub returns-else-is_empty : goal.returns-else-is_empty
returns-else-is_empty c =
    sym (stuck c.texts.texts c.texts.rest.now (sym c.in_default.ensures) c.if-is_empty.ensures) ∙ c.texts.invariant
