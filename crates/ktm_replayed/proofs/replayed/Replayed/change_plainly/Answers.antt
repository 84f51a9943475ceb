use Rattle.std.proofs.Common.{◌∷◌, ◌∙◌, [], sym, ap, refl, None}
use Rattle.ktm_world.specs.declared.event.Event.TheVariants.{Plain}
use Rattle.ktm_world.specs.Durable.{recorded_changes_apply}
use Rattle.ktm_replayed.specs.Replayed.{ReplayedState}
use Rattle.ktm_replayed.specs.Replayed.{passes_units}
use Rattle.ktm_replayed.proofs.Taking.{takes-ok, takes-none}
use Rattle.ktm_replayed.proofs.Past.{past_units}
use Rattle.ktm_replayed.proofs.replayed.Replayed.change_plainly.Goals as goal

pub returns-then-passes_units : goal.returns-then-passes_units
returns-then-passes_units c =
    let s = c.args.self.now.state in
    let passes = ap (λ (r : ReplayedState). passes_units r.state.units c.args.change) (sym c.self.view_is) ∙ sym c.if-passes_units.ensures in
    takes-none s s (Plain c.args.change) (past_units s c.args.change passes)

pub returns : goal.returns
returns c =
    let s = c.args.self.now.state in
    takes-ok c.commit_change.result s c.commit_change.new.self.state (Plain c.args.change) (recorded_changes_apply s None (c.args.change ∷ [])) refl c.commit_change.ensures.applies c.commit_change.ensures.after
