use Rattle.std.proofs.Common.{◌∙◌, sym, ap}
use Rattle.ktm_world.specs.declared.event.Part.TheVariants.{Changes, Settings}
use Rattle.ktm_replayed.proofs.Taking.{takes-changes, takes-settings}
use Rattle.ktm_replayed.proofs.replayed.Replayed.commit_part.Goals as goal

pub returns-in-Changes : goal.returns-in-Changes
returns-in-Changes c =
    takes-changes c.commit_changes.result c.args.self.now.state c.commit_changes.new.self.state c.args.transaction c.args.part c.into_vec.result.items (ap Changes c.into_vec.ensures ∙ sym c.in-Changes.is)
    (sym c.may_commit_alone.ensures ∙ c.if-not-may_commit_alone.false) c.commit_changes.ensures.applies c.commit_changes.ensures.after

pub returns-in-Settings : goal.returns-in-Settings
returns-in-Settings c =
    takes-settings c.commit_settings.result c.args.self.now.state c.commit_settings.new.self.state c.args.transaction c.args.part c.into_vec-in-Settings.result.items
    (ap Settings c.into_vec-in-Settings.ensures ∙ sym c.in-Settings.is)
    (sym c.may_commit_alone.ensures ∙ c.if-not-may_commit_alone.false) c.commit_settings.ensures.applies c.commit_settings.ensures.after
