use Rattle.std.proofs.Common.{◌&&◌, ◌∙◌, not, ap, subst}
use Rattle.ktm_world.specs.Durable.{settings_apply}
use Rattle.txf_laws.specs.Elements.{IsIn}
use Rattle.ktm_replayed.specs.Replayed.{ReplayedState}
use Rattle.ktm_waiting.specs.Waiting.{others_set}
use Rattle.ktm_waiting.proofs.offered.Beside.{settings-tested}
use Rattle.ktm_replayed.proofs.replayed.Replayed.settings_apply.Goals as goal

pub others_set-requires-clause-parts : goal.others_set-requires-clause-parts
others_set-requires-clause-parts c t there = (c.law_of_kept.ensures.kept.each t (subst (IsIn t) (c.as_slice.ensures ∙ ap (λ (r : ReplayedState). r.state.transactions) c.self.view_is) there)).parts

pub others_set-requires-clause-kept : goal.others_set-requires-clause-kept
others_set-requires-clause-kept c t there = (c.law_of_kept.ensures.kept.each t (subst (IsIn t) (c.as_slice.ensures ∙ ap (λ (r : ReplayedState). r.state.transactions) c.self.view_is) there)).settings

pub returns-then-are_good_settings : goal.returns-then-are_good_settings
returns-then-are_good_settings c =
    let s = c.args.self.now.state in
    let ss = c.args.settings.now in
    ap not (c.others_set.ensures ∙ ap (others_set c.args.who ss) (c.as_slice.ensures ∙ ap (λ (r : ReplayedState). r.state.transactions) c.self.view_is))
    ∙ settings-tested s c.args.who ss
    ∙ ap (λ b. b && settings_apply s c.args.who ss) c.if-are_good_settings.ensures
