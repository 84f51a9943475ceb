use Rattle.std.proofs.Common.{List, ◌∙◌, ap, refl, subst}
use Rattle.ktm_owners.specs.Owners.{AreNamedByPart, AreNamedByParts, AreNamedInTurn}
use Rattle.ktm_owners.proofs.offered.Turns.{all-named-at, none-named, one-named-at}
use Rattle.ktm_world.specs.declared.recorded.RecordedPart.{RecordedPart}
use Rattle.ktm_world.specs.Durable.{Recorded}
use Rattle.ktm_restart.proofs.naming.name_works.Goals as goal

pub loop-transaction-init : goal.loop-transaction-init
loop-transaction-init c = record { named = none-named AreNamedByParts c.args.transactions.now c.args.owners.now.named; owners = refl }

pub loop-transaction-preserved : goal.loop-transaction-preserved
loop-transaction-preserved c =
    let (own, here, is) = c.in_ok-name_parts.ensures.named in
    record {
      named = one-named-at AreNamedByParts c.args.transactions.now c.loop-transaction.transaction-index c.transaction-item.result c.args.owners.now.named c.loop-transaction.owners.named own c.name_parts.new.owners.named
          c.loop-transaction-test.true c.transaction-item.is c.loop-transaction.invariant.named (subst (λ (ps : List RecordedPart). AreNamedInTurn AreNamedByPart ps own) (c.deref.ensures.value ∙ ap (λ (t : Recorded). t.parts) c.transaction.view_is) here) is;
      owners = c.name_parts.ensures.owners ∙ c.loop-transaction.invariant.owners;
    }

pub returns-clause-named : goal.returns-clause-named
returns-clause-named c = all-named-at AreNamedByParts c.args.transactions.now c.loop-transaction.transaction-index c.args.owners.now.named c.loop-transaction.owners.named c.loop-transaction-test.false c.loop-transaction.invariant.named
