use Rattle.std.proofs.Common.{sym, ap, ◌∙◌, false}
use Rattle.txf_opens.specs.Acts.{act_of, violates}
use Rattle.txf_reserve.specs.Checks.{refusal_of}
use Rattle.txf_reserve.proofs.Meets.{conflict_of_files}
use Rattle.txf_reserve.proofs.reserve.Reserve.check.Goals as goal

pub returns-then-is_conflict-clause-of_files : goal.returns-then-is_conflict-clause-of_files
returns-then-is_conflict-clause-of_files c = λ files keeps same is.
    sym
    (ap (λ b. refusal_of b (violates c.args.opens.now.opens c.args.who c.args.act.now))
    (conflict_of_files c.args.self.now c.args.opens.now.opens files c.args.who (act_of c.args.act.now) c.args.outdated keeps same is
    ∙ sym c.is_conflict.ensures ∙ c.if-is_conflict.true))

pub returns-then-violates-clause-of_files : goal.returns-then-violates-clause-of_files
returns-then-violates-clause-of_files c = λ files keeps same is.
    sym
    (ap (λ b. refusal_of b (violates c.args.opens.now.opens c.args.who c.args.act.now))
    (conflict_of_files c.args.self.now c.args.opens.now.opens files c.args.who (act_of c.args.act.now) c.args.outdated keeps same is
    ∙ sym c.is_conflict.ensures ∙ c.if-is_conflict.false)
    ∙ ap (refusal_of false) (sym c.violates.ensures ∙ c.if-violates.true))

pub returns-clause-of_files : goal.returns-clause-of_files
returns-clause-of_files c = λ files keeps same is.
    sym
    (ap (λ b. refusal_of b (violates c.args.opens.now.opens c.args.who c.args.act.now))
    (conflict_of_files c.args.self.now c.args.opens.now.opens files c.args.who (act_of c.args.act.now) c.args.outdated keeps same is
    ∙ sym c.is_conflict.ensures ∙ c.if-is_conflict.false)
    ∙ ap (refusal_of false) (sym c.violates.ensures ∙ c.if-violates.false))
