use Rattle.std.proofs.Common.{List, ◌∙◌, refl, subst}
use Rattle.ktm_owners.specs.Owners.{AreAllNamedBy, AreNamedByPart}
use Rattle.ktm_owners.proofs.offered.Turns.{all-named-at, none-named, one-named-at}
use Rattle.ktm_world.specs.declared.change.Change.{Change}
use Rattle.ktm_restart.proofs.naming.name_parts.Goals as goal

pub loop-p-init : goal.loop-p-init
loop-p-init c = record { named = none-named AreNamedByPart c.args.parts.now c.args.owners.now.named; owners = refl }

pub loop-p-preserved : goal.loop-p-preserved
loop-p-preserved c =
    let (own, here, is) = c.in_ok-name_changes.ensures.named in
    record {
      named = one-named-at AreNamedByPart c.args.parts.now c.loop-p.p-index c.p-item.result c.args.owners.now.named c.loop-p.owners.named own c.name_changes.new.self.named c.loop-p-test.true c.p-item.is c.loop-p.invariant.named
          (subst (λ (cs : List Change). AreAllNamedBy cs own) c.changes_in.ensures here) is;
      owners = c.name_changes.ensures.owners ∙ c.loop-p.invariant.owners;
    }

pub returns-clause-named : goal.returns-clause-named
returns-clause-named c = all-named-at AreNamedByPart c.args.parts.now c.loop-p.p-index c.args.owners.now.named c.loop-p.owners.named c.loop-p-test.false c.loop-p.invariant.named
