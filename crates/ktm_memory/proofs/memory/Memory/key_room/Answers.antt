use Rattle.std.proofs.Common.{◌-◌, ap, ◌∙◌}
use Rattle.ktm_world.specs.FileUses.{file_changes_waiting}
use Rattle.txf_volume.specs.Held.{files_of}
use Rattle.ktm_memory.specs.Memory.{held}
use Rattle.ktm_memory.proofs.Decides.{room_is}
use Rattle.ktm_memory.proofs.memory.Memory.key_room.Goals as goal

pub returns : goal.returns
returns c =
    room_is (held c.args.self.now) c.units.result c.saturating_sub.result c.changes_waiting-waiting.result (c.units.ensures ∙ ap (λ m. m.journal.units) c.self.view_is)
    (c.changes_waiting-waiting.ensures.waiting ∙ ap (λ m. file_changes_waiting (files_of m.files)) c.self.view_is)
    (c.saturating_sub.ensures ∙ ap (λ n. n - c.changes_waiting-waiting.result) (c.units-2.ensures ∙ ap (λ m. m.journal.units) c.self.view_is))
