use Rattle.ktm_store.proofs.Rows.{kept-whole}
use Rattle.ktm_store.proofs.frames.Frames.count.Goals as goal

pub returns : goal.returns
returns c =
    rw (← c.self.view_is)
    (record { whole = kept-whole c.self.inside.owners.count c.self.inside.bytes.items c.self.inside.owners.at c.self.invariant c.count.ensures.within })
