use Rattle.std.proofs.Common.{◌∙◌, Some, sym, ap}
use Rattle.ktm_trace.specs.Joined.{head_id}
use Rattle.ktm_trace.specs.Placed.{Rises}
use Rattle.ktm_trace.proofs.Placed.{IsTaken, absent-without, not-there, taken}
use Rattle.ktm_trace.proofs.heads.Heads.take.Goals as goal

pub returns-in_default-clause-taken : goal.returns-in_default-clause-taken
returns-in_default-clause-taken c =
    let none = rw c.deref.ensures.value at c.in_default.ensures in
    rw (← c.self.view_is) (sym (not-there head_id c.self.inside.items.items c.args.id none))

pub returns-in_default-clause-rest : goal.returns-in_default-clause-rest
returns-in_default-clause-rest c =
    let none = rw c.deref.ensures.value at c.in_default.ensures in
    rw (← c.self.view_is) (sym (absent-without head_id c.self.inside.items.items c.args.id (not-there head_id c.self.inside.items.items c.args.id none)))

there : (c : goal.After-remove) → IsTaken head_id c.self.inside.items.items c.args.id c.in-Some.index
there c =
    let rise : Rises head_id c.self.inside.items.items = rw (← c.self.view_is) at c.requires in
    taken head_id c.self.inside.items.items c.args.id c.in-Some.index rise (rw c.deref.ensures.value at c.in-Some.ensures)

pub returns-clause-taken : goal.returns-clause-taken
returns-clause-taken c = rw (← c.self.view_is) (ap Some c.remove.ensures.value ∙ sym ((there c).taken c.remove.result))

pub returns-clause-rest : goal.returns-clause-rest
returns-clause-rest c = rw (← c.self.view_is) (c.remove.ensures.items ∙ sym (there c).rest)
