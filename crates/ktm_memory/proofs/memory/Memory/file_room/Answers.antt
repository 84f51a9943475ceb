use Rattle.std.proofs.Common.{◌-◌, length, ap, ◌∙◌}
use Rattle.ktm_base.specs.declared.limits.TheConstants.{MOST_HANDLES}
use Rattle.ktm_world.specs.Keys.{changes_pending as keys_unset}
use Rattle.ktm_memory.specs.Memory.{held}
use Rattle.ktm_memory.proofs.FilesDecided.{file_room_is}
use Rattle.ktm_memory.proofs.memory.Memory.file_room.Goals as goal

pub returns : goal.returns
returns c =
    file_room_is (held c.args.self.now) c.left.result c.saturating_sub.result c.units-2.result c.unset_count.result
    (c.left.ensures ∙ ap (λ m. MOST_HANDLES - length m.handles.handles) c.self.view_is)
    (c.unset_count.ensures ∙ ap (λ m. keys_unset m.keys) c.self.view_is)
    (c.units-2.ensures ∙ ap (λ m. m.journal.units) c.self.view_is)
    (c.saturating_sub.ensures ∙ ap (λ n. n - c.unset_count.result) (c.units.ensures ∙ ap (λ m. m.journal.units) c.self.view_is))
