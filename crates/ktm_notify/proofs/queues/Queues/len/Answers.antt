use Rattle.std.proofs.Common.{◌≡◌, length, vec_len, rules, sym, ◌∙◌}
use Rattle.ktm_notify.proofs.Marking.{count-queues}
use Rattle.ktm_notify.proofs.queues.Queues.len.Goals as goal

pub returns : goal.returns
returns c =
    let count : vec_len c.self.inside.ends ≡ length c.self.inside.ends.items = search rules in
    rw (← c.self.view_is) (c.len.ensures ∙ count ∙ sym (count-queues c.self.inside.slots.items 0 c.self.inside.ends.items))
