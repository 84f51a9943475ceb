use Rattle.std.proofs.Common.{◌≡◌, ◌∙◌, false, sym, ap, subst}
use Rattle.std.proofs.lemmas.Bool.{and_from}
use Rattle.ktm_world.specs.declared.event.Event.TheVariants.{Ready}
use Rattle.ktm_world.specs.Durable.{Durable, is_within_limits, with_part}
use Rattle.ktm_replayed.proofs.Taking.{takes-tested}
use Rattle.ktm_replayed.proofs.replayed.Replayed.get_ready.Goals as goal

pub returns : goal.returns
returns c =
    let s = c.args.self.now.state in
    let id = c.args.transaction in
    let part = c.args.part in
    let same = c.part_applies.ensures.state in
    takes-tested c.add_part.result s c.add_part.new.self.state (Ready id part)
    (and_from _ _ (sym c.may_get_ready.ensures ∙ c.if-not-may_get_ready.false) (sym c.in_ok-part_applies.ensures.applies ∙ c.if-not-branch.false))
    (λ ok. c.add_part.ensures.added ok ∙ ap (λ (t : Durable). with_part t id part) same)
    (λ ok. subst (λ (t : Durable). is_within_limits (with_part t id part) ≡ false) same (c.add_part.ensures.refused ok))
