use Rattle.std.proofs.Common.{◌≡◌, ◌∙◌, sym, ap, subst}
use Rattle.std.specs.Prelude.{IfOk}
use Rattle.ktm_world.specs.declared.event.Part.{Part}
use Rattle.ktm_world.specs.declared.event.Part.TheVariants.{Changes, Settings}
use Rattle.ktm_world.specs.Durable.{part_applies}
use Rattle.ktm_replayed.proofs.replayed.Replayed.part_applies.Goals as goal

pub returns-in-Changes-clause-applies : goal.returns-in-Changes-clause-applies
returns-in-Changes-clause-applies c =
    subst (λ (p : Part). IfOk c.may_wait.result (λ applies. applies ≡ part_applies c.args.self.now.state c.args.transaction p)) (ap Changes c.as_slice-in-Changes.ensures ∙ sym c.in-Changes.is) c.may_wait.ensures.may

pub returns-in-Settings-clause-applies : goal.returns-in-Settings-clause-applies
returns-in-Settings-clause-applies c =
    c.may_set.ensures ∙ ap (part_applies c.args.self.now.state c.args.transaction) (ap Settings c.as_slice-in-Settings.ensures ∙ sym c.in-Settings.is)
