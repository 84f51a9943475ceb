use Rattle.std.proofs.Common.{◌≡◌, ◌∙◌, length, sym, rules, vec_len}
use Rattle.ktm_manager.proofs.Serving.{as_many}
use Rattle.ktm_manager.proofs.managers.Managers.len.Goals as goal

pub returns : goal.returns
returns c =
    let count : vec_len c.self.inside.listed ≡ length c.self.inside.listed.items = search rules in
    rw (← c.self.view_is) (c.len.ensures ∙ count ∙ sym (as_many c.self.inside.listed.items c.self.inside.queues.queues))
