use Rattle.std.specs.Option.{option_copied}
use Rattle.std.proofs.Common.{sym, ◌∙◌, ap}
use Rattle.ktm_memory.specs.Memory.{present_of}
use Rattle.ktm_world.specs.Enlistments.{enlistment_at}
use Rattle.ktm_memory.proofs.offered.Decided.{only_decided}
use Rattle.ktm_memory.proofs.ObjectsDecided.{told_is}
use Rattle.ktm_memory.proofs.memory.Memory.decide_told.Goals as goal

pub returns : goal.returns
returns c = λ process events holds.
    only_decided c.args.self.now _ _ events
    (told_is (present_of c.args.self.now) (enlistment_at c.args.self.now.tm.now.enlistments c.args.enlistment) c.in-Some.e.now _
    (ap (λ m. enlistment_at m.tm.now.enlistments c.args.enlistment) (sym c.self.view_is) ∙ sym c.enlistment.ensures ∙ ap option_copied c.in-Some.is)
    (c.in_ok-copy.ensures ∙ ap (λ e. e.information) c.e.view_is)) holds
