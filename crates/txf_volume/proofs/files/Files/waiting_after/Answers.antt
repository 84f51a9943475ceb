use Rattle.std.proofs.Common.{not, sym, ◌∙◌, ap}
use Rattle.ktm_world.specs.FileOutcome.{FileOutcome}
use Rattle.txf_volume.specs.Uses.{names_added, one_if}
use Rattle.txf_volume.proofs.Counted.{none-added, waiting-same, waiting-sum}
use Rattle.txf_volume.proofs.files.Files.waiting_after.Goals as goal

pub returns-in-Some-Some : goal.returns-in-Some-Some
returns-in-Some-Some c =
    let change = ap (λ (o : FileOutcome). o.change) (sym c.plan.view_is) ∙ c.in-Some-Some.is-0 in
    waiting-sum c.args.self.now c.args.who c.args.plan.now c.changes_waiting-waiting.result 1 c.changes_waiting-waiting.ensures.steady c.changes_waiting-waiting.ensures.waiting
    ((λ i. names_added (c.in-Some-Some.is-1 i) (change i)) ∙ ap (λ b. one_if (not b)) (sym c.if-not-changes_bytes.ensures))

pub returns-in_default : goal.returns-in_default
returns-in_default c =
    let change = ap (λ (o : FileOutcome). o.change) (sym c.plan.view_is) ∙ c.in-Some-Some.is-0 in
    waiting-same c.args.self.now c.args.who c.args.plan.now c.changes_waiting-waiting.result c.changes_waiting-waiting.ensures.steady c.changes_waiting-waiting.ensures.waiting
    ((λ i. names_added (c.in-Some-Some.is-1 i) (change i)) ∙ ap (λ b. one_if (not b)) (sym c.if-not-changes_bytes.ensures))

pub returns-in_default-2 : goal.returns-in_default-2
returns-in_default-2 c =
    let change = ap (λ (o : FileOutcome). o.change) (sym c.plan.view_is) ∙ c.in_default.is-0 in
    waiting-same c.args.self.now c.args.who c.args.plan.now c.changes_waiting-waiting.result c.changes_waiting-waiting.ensures.steady c.changes_waiting-waiting.ensures.waiting
    (λ i. names_added (c.in_default.is-1 i) (change i))

pub returns-in_default-3 : goal.returns-in_default-3
returns-in_default-3 c =
    let change = ap (λ (o : FileOutcome). o.change) (sym c.plan.view_is) ∙ c.in_default.is-0 in
    waiting-same c.args.self.now c.args.who c.args.plan.now c.changes_waiting-waiting.result c.changes_waiting-waiting.ensures.steady c.changes_waiting-waiting.ensures.waiting
    (ap (names_added c.args.who) change ∙ none-added c.args.who)
