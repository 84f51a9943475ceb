use Rattle.std.proofs.Common.{◌≡◌, ℕ, Bool, true, is_some, List, None, ap, sym, subst}
use Rattle.ktm_each.specs.Each.{EachOfFiles, EachOfGroup}
use Rattle.ktm_memory.proofs.offered.Opening.{events_in}
use Rattle.ktm_memory.specs.Rules.{Follows}
use Rattle.txf_volume.specs.Held.{FilesHeld, files_of}
use Rattle.ktm_standing.proofs.offered.NextNode.{logs_next}
use Rattle.ktm_memory.specs.Memory.{MemoryState, SettlesGood, TellsWithin, course_then, present_of}
use Rattle.ktm_memory.proofs.Behind.{settles-good, settles-reply}
use Rattle.ktm_memory.proofs.Telling.{settles-inform, settles-recover, settles-take, told-recover}
use Rattle.ktm_tm.specs.Courses.{caller_of}
use Rattle.ktm_world.specs.declared.reply.Reply.TheVariants.{Done}
use Rattle.ktm_world.specs.declared.step.Step.{Step}
use Rattle.ktm_world.specs.Enlistments.{enlistment_at, manager_at}
use Rattle.ktm_world.specs.Outcome.{only_reply}
use Rattle.ktm_world.specs.TransactionCalls.{arrived, get_notification, recover_resource_manager, set_information}
use Rattle.ktm_memory.proofs.memory.Memory.settle.Goals as goal

pub recover-requires-clause-slots : goal.recover-requires-clause-slots
recover-requires-clause-slots c =
    let m : MemoryState = record { is_up = c.self.inside.is_up; journal = c.self.inside.journal; handles = c.self.inside.handles; tm = c.self.inside.tm; trace = c.self.inside.trace; files = c.self.inside.files; next_node = c.self.inside.next_node; keys = c.self.inside.keys } in
    let there = subst (λ (old : MemoryState). is_some (manager_at old.tm.managers c.in-Recover.manager) ≡ true) (sym c.self.view_is) (rw c.in-Recover.is at c.requires.may) in
    told-recover m c.in-Recover.manager c.law_of_kept.ensures there
    (subst (λ (old : MemoryState). TellsWithin old (λ x. recover_resource_manager x (manager_at x.managers c.in-Recover.manager))) (sym c.self.view_is) (rw c.in-Recover.is at c.requires.told))

pub returns-in-Nothing-clause-settles : goal.returns-in-Nothing-clause-settles
returns-in-Nothing-clause-settles c = rw c.in-Nothing.is (settles-good c.args.self.now c.args.self.now (λ x. only_reply x Done) (settles-reply c.args.self.now))

pub returns-in-Course-clause-settles : goal.returns-in-Course-clause-settles
returns-in-Course-clause-settles c =
    let t = c.in-Course.transaction in
    rw c.in-Course.is
    (subst (λ (steps : List Step). SettlesGood c.args.self.now (λ x. arrived x (course_then x t c.in-Course.caller steps) Done) c.carry_out.new.self) c.as_slice.ensures.value (record {
      shows = λ x now good. c.carry_out.ensures.settles.shows x now (logs_next x t (caller_of x.transactions.enlistments c.in-Course.caller) c.as_slice.result.now good);
      slots = c.carry_out.ensures.settles.slots;
    }))

pub returns-in-Recover-clause-settles : goal.returns-in-Recover-clause-settles
returns-in-Recover-clause-settles c =
    let m : MemoryState = record { is_up = c.self.inside.is_up; journal = c.self.inside.journal; handles = c.self.inside.handles; tm = c.self.inside.tm; trace = c.self.inside.trace; files = c.self.inside.files; next_node = c.self.inside.next_node; keys = c.self.inside.keys } in
    let there = subst (λ (old : MemoryState). is_some (manager_at old.tm.managers c.in-Recover.manager) ≡ true) (sym c.self.view_is) (rw c.in-Recover.is at c.requires.may) in
    let n : MemoryState = record m { tm = c.recover.new.self } in
    rw c.in-Recover.is
    (subst (λ (old : MemoryState). SettlesGood old (λ x. recover_resource_manager x (manager_at x.managers c.in-Recover.manager)) n) c.self.view_is
    (settles-good m n (λ x. recover_resource_manager x (manager_at x.managers c.in-Recover.manager))
    (settles-recover m c.recover.new.self c.in-Recover.manager there c.recover.ensures.room.boot c.recover.ensures.now c.recover.ensures.managers c.recover.ensures.slots)))

pub returns-in-Take-clause-settles : goal.returns-in-Take-clause-settles
returns-in-Take-clause-settles c =
    let m : MemoryState = record { is_up = c.self-in-Take.inside.is_up; journal = c.self-in-Take.inside.journal; handles = c.self-in-Take.inside.handles; tm = c.self-in-Take.inside.tm; trace = c.self-in-Take.inside.trace; files = c.self-in-Take.inside.files; next_node = c.self-in-Take.inside.next_node; keys = c.self-in-Take.inside.keys } in
    let there = subst (λ (old : MemoryState). is_some (manager_at old.tm.managers c.in-Take.manager) ≡ true) (sym c.self-in-Take.view_is) (rw c.in-Take.is at c.requires.may) in
    let n : MemoryState = record m { tm = c.take_note.new.self } in
    rw c.in-Take.is
    (subst (λ (old : MemoryState). SettlesGood old (λ x. get_notification x (manager_at x.managers c.in-Take.manager)) n) c.self-in-Take.view_is
    (settles-good m n (λ x. get_notification x (manager_at x.managers c.in-Take.manager))
    (settles-take m c.take_note.new.self c.in-Take.manager there c.take_note.ensures.room.boot c.take_note.ensures.now c.take_note.ensures.managers c.take_note.ensures.slots)))

pub returns-in-Inform-clause-settles : goal.returns-in-Inform-clause-settles
returns-in-Inform-clause-settles c =
    let m : MemoryState = record { is_up = c.self-in-Inform.inside.is_up; journal = c.self-in-Inform.inside.journal; handles = c.self-in-Inform.inside.handles; tm = c.self-in-Inform.inside.tm; trace = c.self-in-Inform.inside.trace; files = c.self-in-Inform.inside.files; next_node = c.self-in-Inform.inside.next_node; keys = c.self-in-Inform.inside.keys } in
    let n : MemoryState = record m { tm = c.inform.new.self } in
    rw c.in-Inform.is
    (subst (λ (old : MemoryState). SettlesGood old (λ x. set_information x (enlistment_at x.transactions.enlistments c.in-Inform.enlistment) c.in-Inform.information) n) c.self-in-Inform.view_is
    (settles-good m n (λ x. set_information x (enlistment_at x.transactions.enlistments c.in-Inform.enlistment) c.in-Inform.information)
    (settles-inform m c.inform.new.self c.in-Inform.enlistment c.in-Inform.information c.inform.ensures.others.boot c.inform.ensures.now c.inform.ensures.others.managers c.inform.ensures.others.slots)))

-- what leaves the files as they are
files-kept : (rule : ℕ → ℕ → ℕ → Bool) (old new : FilesHeld) → new ≡ old → EachOfFiles (Follows rule) (files_of old) → EachOfFiles (Follows rule) (files_of new)
files-kept rule old new same each = subst (λ (f : FilesHeld). EachOfFiles (Follows rule) (files_of f)) (sym same) each

pub returns-in-Begin-clause-rules : goal.returns-in-Begin-clause-rules
returns-in-Begin-clause-rules c = λ rule none each puts. files-kept rule _ _ c.begin.ensures.files each

pub returns-in-MakeManager-clause-rules : goal.returns-in-MakeManager-clause-rules
returns-in-MakeManager-clause-rules c = λ rule none each puts. files-kept rule _ _ c.make_manager.ensures.files each

pub returns-in-Enlist-clause-rules : goal.returns-in-Enlist-clause-rules
returns-in-Enlist-clause-rules c = λ rule none each puts. files-kept rule _ _ c.enlist.ensures.files each

pub returns-in-Change-clause-rules : goal.returns-in-Change-clause-rules
returns-in-Change-clause-rules c = λ rule none each puts.
    c.change.ensures.rules rule none each
    (subst (EachOfGroup (Follows rule)) (events_in (present_of c.args.self.now) c.in-Change.process None c.in-Change.label c.in-Change.plan) (rw c.in-Change.is at puts))

pub returns-in-Course-clause-rules : goal.returns-in-Course-clause-rules
returns-in-Course-clause-rules c = λ rule none each puts. c.carry_out.ensures.rules rule none each

pub returns-in-Handles-clause-rules : goal.returns-in-Handles-clause-rules
returns-in-Handles-clause-rules c = λ rule none each puts. c.handle.ensures.rules rule none each

pub returns-in-Pass-clause-rules : goal.returns-in-Pass-clause-rules
returns-in-Pass-clause-rules c = λ rule none each puts. c.tick.ensures.rules rule none each

pub returns-in-Recover-clause-rules : goal.returns-in-Recover-clause-rules
returns-in-Recover-clause-rules c = λ rule none each puts. files-kept rule _ _ (ap (λ (m : MemoryState). m.files) c.self.view_is) each

pub returns-in-Take-clause-rules : goal.returns-in-Take-clause-rules
returns-in-Take-clause-rules c = λ rule none each puts. files-kept rule _ _ (ap (λ (m : MemoryState). m.files) c.self-in-Take.view_is) each

pub returns-in-Inform-clause-rules : goal.returns-in-Inform-clause-rules
returns-in-Inform-clause-rules c = λ rule none each puts. files-kept rule _ _ (ap (λ (m : MemoryState). m.files) c.self-in-Inform.view_is) each
