use Rattle.std.proofs.Common.{option_map, sym, ◌∙◌, ap}
use Rattle.ktm_base.specs.declared.id.ObjectKind.{ObjectKind}
use Rattle.ktm_base.specs.Guid.{guid_of}
use Rattle.ktm_manager.specs.Managers.{first_of, note_of}
use Rattle.ktm_world.specs.declared.reply.Reply.TheVariants.{Notification}
use Rattle.ktm_world.specs.Enlistments.{manager_at}
use Rattle.ktm_memory.proofs.ObjectsDecided.{note_decided}
use Rattle.ktm_memory.proofs.memory.Memory.decide_note.Goals as goal

pub returns : goal.returns
returns c = λ process events holds.
    note_decided c.args.self.now c.args.manager (note_of c.in-Some.note) _ events c.requires.there
    (ap (λ m. first_of (manager_at m.tm.managers c.args.manager)) (sym c.self.view_is) ∙ sym c.first_note.ensures ∙ ap (option_map note_of) c.in-Some.is)
    (c.notification.ensures ∙ ap (λ image. Notification c.in-Some.note.kind (option_map (guid_of ObjectKind.Enlistment image) c.in-Some.note.enlistment)) (c.image.ensures ∙ ap (λ m. m.journal.image) c.self.view_is)) holds
