use Rattle.std.proofs.Common.{◌∙◌, refl}
use Rattle.ktm_owners.specs.Owners.{AreNamedBy}
use Rattle.ktm_owners.proofs.offered.Turns.{all-named-at, none-named, one-named-at}
use Rattle.ktm_owners.proofs.owners.Owners.name_changes.Goals as goal

pub loop-change-init : goal.loop-change-init
loop-change-init c = record { named = none-named AreNamedBy c.args.changes.now c.args.self.now.named; owners = refl }

pub loop-change-preserved : goal.loop-change-preserved
loop-change-preserved c =
    let (own, here, is) = c.in_ok-name_change.ensures.named in
    record {
      named = one-named-at AreNamedBy c.args.changes.now c.loop-change.change-index c.change-item.result c.args.self.now.named c.loop-change.self.named own c.name_change.new.self.named c.loop-change-test.true c.change-item.is c.loop-change.invariant.named here is;
      owners = c.name_change.ensures.owners ∙ c.loop-change.invariant.owners;
    }

pub returns-clause-named : goal.returns-clause-named
returns-clause-named c = all-named-at AreNamedBy c.args.changes.now c.loop-change.change-index c.args.self.now.named c.loop-change.self.named c.loop-change-test.false c.loop-change.invariant.named
