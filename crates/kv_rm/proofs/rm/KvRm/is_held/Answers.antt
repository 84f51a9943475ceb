use Rattle.std.proofs.Common.{sym, ◌∙◌}
use Rattle.kv_rm.proofs.Hashes.{not_held-as_counted}
use Rattle.kv_rm.proofs.rm.KvRm.is_held.Goals as goal

pub returns-else-has_others : goal.returns-else-has_others
returns-else-has_others c =
    let seat = rw (← c.self.view_is, c.in-Some-Some.is-0, c.in-Some-Some.is-1) at c.requires in
    let no_others = rw c.is_some.ensures at c.if-has_others.ensures in
    let free = not_held-as_counted _ _ _ _ _ seat c.self.invariant.held (sym no_others) in
    rw (← c.self.view_is, c.in-Some-Some.is-0) (c.if-has_others.false ∙ sym free)
