use Rattle.std.proofs.Common.{filter, find, ◌∙◌, sym, ap, arith}
use Rattle.txf_versions.specs.VersionsState.{is_held, is_version}
use Rattle.txf_versions.proofs.Holding.{filter-twice, find-held, none-own, released}
use Rattle.txf_versions.proofs.versions.Versions.release.Goals as goal

pub loop-transaction-preserved : goal.loop-transaction-preserved
loop-transaction-preserved c =
    let step = c.release_next.ensures in
    let next = c.release_next.new.self.opens in
    let first = c.args.self.now.older in
    record {
      others = step.others ∙ c.loop-transaction.invariant.others;
      older =
          ap (filter (is_held next)) (released c.loop-transaction.self.opens next first _ _ step.still c.loop-transaction.invariant.older step.older)
          ∙ filter-twice next next first (λ f v pinned. pinned);
      spare = omega (arith, step.spare, c.loop-transaction.invariant.spare);
    }

pub returns-clause-opens : goal.returns-clause-opens
returns-clause-opens c =
    let step = c.release_next.ensures in
    sym (none-own c.release_next.new.self.opens c.args.transaction (step.none c.loop-transaction-test.false))
    ∙ step.others ∙ c.loop-transaction.invariant.others

pub returns-clause-older : goal.returns-clause-older
returns-clause-older c =
    let step = c.release_next.ensures in
    released c.loop-transaction.self.opens c.release_next.new.self.opens c.args.self.now.older _ _ step.still c.loop-transaction.invariant.older step.older

pub returns-clause-held : goal.returns-clause-held
returns-clause-held c f v pinned =
    ap (find (is_version f v)) (returns-clause-older c) ∙ find-held c.release_next.new.self.opens c.args.self.now.older f v pinned
