use Rattle.std.proofs.Common.{List, ◌+◌, ◌∙◌, ap, arith, get_or, length, refl, subst, sym}
use Rattle.ktm_owners.specs.declared.owners.Named.{Named}
use Rattle.ktm_owners.specs.declared.owners.Owner.{Owner}
use Rattle.ktm_restart.proofs.Giving.{GivenSoFar, all-are-given, next-there, none-given, one-given, one-refused}
use Rattle.ktm_restart.proofs.reading.give_named.Goals as goal

pub loop-at-init : goal.loop-at-init
loop-at-init c = record { given = none-given c.args.replayed.now.state c.args.owners.now.owners c.args.owners.now.named c.requires; named = refl }

pub named-name-requires : goal.named-name-requires
named-name-requires c = omega (arith, ap length c.loop-at.invariant.named, c.named_count-at-end.ensures)

pub give-requires : goal.give-requires
give-requires c =
    next-there c.args.replayed.now.state c.args.owners.now.owners c.args.owners.now.named c.loop-at.at c.loop-at.owners.owners c.loop-at.invariant.given c.named-name.result (omega (arith, c.named_count-at-end.ensures))
    (c.named-name.ensures ∙ ap (λ (l : List Named). get_or l c.loop-at.at c.named-name.result) c.loop-at.invariant.named)

pub returns-then-not-give : goal.returns-then-not-give
returns-then-not-give c =
    one-refused c.args.replayed.now.state c.args.owners.now.owners c.args.owners.now.named c.loop-at.at c.loop-at.owners.owners c.loop-at.invariant.given c.named-name.result (omega (arith, c.named_count-at-end.ensures))
    (c.named-name.ensures ∙ ap (λ (l : List Named). get_or l c.loop-at.at c.named-name.result) c.loop-at.invariant.named) (sym c.give.ensures.may ∙ c.if-not-give.true)

pub loop-at-preserved : goal.loop-at-preserved
loop-at-preserved c =
    let given =
    one-given c.args.replayed.now.state c.args.owners.now.owners c.args.owners.now.named c.loop-at.at c.loop-at.owners.owners c.loop-at.invariant.given c.named-name.result (omega (arith, c.named_count-at-end.ensures))
    (c.named-name.ensures ∙ ap (λ (l : List Named). get_or l c.loop-at.at c.named-name.result) c.loop-at.invariant.named) (sym c.give.ensures.may ∙ c.if-not-give.false) in
    record {
      given = subst (λ (l : List Owner). GivenSoFar c.args.replayed.now.state c.args.owners.now.owners c.args.owners.now.named (c.loop-at.at + 1) l) (sym (c.give.ensures.given c.if-not-give.false)) given;
      named = c.give.ensures.named ∙ c.loop-at.invariant.named;
    }

pub returns : goal.returns
returns c = all-are-given c.args.replayed.now.state c.args.owners.now.owners c.args.owners.now.named c.loop-at.at c.loop-at.owners.owners c.loop-at.invariant.given (omega (arith, c.named_count-at-end.ensures))
